-- A PUT or COPY that takes a default of years keeps its row until they end, and meets 10 where they end after the year 9999.
use Prim.Native.Nat.{ℕ, ◌+◌, ◌/◌, ◌≤◌}
use mathlib.Core.Path.{◌≡◌, refl, sym, ◌∙◌}
use mathlib.Core.Logic.{◌⊎◌, inl, inr}
use mathlib.Core.Bool.{Bool, true, false, true≢false, false≢true, not, ◌&&◌, and-true, or-false}
use mathlib.Core.List.{List}
use Rattle.std.specs.Prelude.{Some, None}
use native.Mathlib.Omega.{arith}
use lib.Dec.{eqb, leb, ltb}
use borrow.Author.Tests.{eqb-true, leb-true, ltb-false, not-true}
use Rattle.buffers.specs.Choices.{then_some}
use Rattle.buffers.proofs.Tests.{and_l, and_r, or_one}
use Rattle.calendar.specs.declared.Now.{Now}
use Rattle.calendar.specs.Calendar.{latest, day, civil_of}
use Rattle.calendar.specs.Periods.{YearsEnd}
use Rattle.calendar.proofs.Periods.{period_years}
use Rattle.model.specs.Rows.{is_mode}
use Rattle.model.specs.Settings.{Default, Config, Bucket, years, has_default, sound_default, sound}
use Rattle.model.specs.Requests.{Name, Retention, Terms, Repeat, Verb, Put, Copy, Ask, Context, Request, says, terms_of}
use Rattle.model.specs.Time.{now_of, default_end, new_mode, new_until}
use Rattle.model.specs.Effects.{row_of, new_row, insert_by_key, rows_after, after}
use Rattle.model.specs.Retries.{meant}
use Rattle.model.specs.Refusals.{default_too_late, too_late, spends, full, Check, first_of, checks}
use Rattle.model.specs.Years.{CountsYears, MadeForYears}
use Rattle.model.proofs.Accepted.{meant_ways, Accepted}
use Rattle.model.proofs.SoundRows.{mode_not_zero}
use Rattle.model.proofs.Sound.{whole, config_default}
use Rattle.model.proofs.Invariant.{asked}
use Rattle.model.proofs.Retries.{retry_unspent, retry_fits}
use Rattle.model.proofs.Facts.{first_among, first_passed}

-- ## A sound default of years

record SomeYears (d : Default) : Type 0 where
  has_mode : has_default d ≡ true
  some : 1 ≤ d.count
  most : d.count ≤ 100

some_years : (d : Default) → sound_default d ≡ true → d.unit ≡ years → SomeYears d
some_years d e u =
    elim (or_one (eqb d.mode 0 && (eqb d.count 0 && eqb d.unit 0)) _ e) [
      | inl a ↦ absurd (omega (arith, eqb-true d.unit 0 (and_r (eqb d.count 0) _ (and_r (eqb d.mode 0) _ a))))
      | inr a ↦
          let p : (leb 1 d.count && leb d.count 100) ≡ true = rw u at (and_r (is_mode d.mode) _ a) in
          record { has_mode = rw (mode_not_zero d.mode (and_l _ _ a)); some = leb-true 1 d.count (and_l _ _ p); most = leb-true d.count 100 (and_r (leb 1 d.count) _ p) }
    ]

pub years_mode : (d : Default) → sound_default d ≡ true → d.unit ≡ years → d.mode ≡ 0 → ⊥
years_mode d e u z = true≢false (sym (some_years d e u).has_mode ∙ rw z)

module _ (s : Config) (now : ℕ) (e : sound_default s.default ≡ true) (u : s.default.unit ≡ years) (h : now ≤ latest) where
  abbrev d : Default
  d = s.default

  period : SomeYears d
  period = some_years d e u

  -- The date from the default is the end of its years.
  pub default_ends : YearsEnd d.count now (default_end s now)
  unfolding default_end
  default_ends = rw u (period_years now d.count h period.some (omega (arith, period.most)))

  -- A line that gives no mode meets 10 where the later year is above 9999, and nowhere else.
  pub ten_by_years : (r : Retention) → r.mode ≡ None → default_too_late s now r ≡ ltb 9999 ((civil_of (now / day)).year + d.count)
  ten_by_years r n = rw (n, period.has_mode) default_ends.is_too_late

  no_later : (r : Retention) → r.mode ≡ None → default_too_late s now r ≡ false → default_end s now ≤ latest
  no_later r n f = ltb-false latest (default_end s now) (rw (n, period.has_mode) at f)

  new_mode_lem : (r : Retention) → r.mode ≡ None → new_mode s r ≡ d.mode
  new_mode_lem r n = rw n

  new_until_lem : (r : Retention) → r.mode ≡ None → new_until s now r ≡ default_end s now
  new_until_lem r n = rw (n, period.has_mode)

-- ## The row that is made

-- The verb is a PUT or COPY that makes a row of this key with these lock fields.
abbrev pub MakesRow : List ℕ → Terms → Verb → Type 0
MakesRow k t w = ((body : ℕ) × ((size : ℕ) × (w ≡ Put k body size t))) ⊎ ((n : Name) × (w ≡ Copy n k t))

pub terms_made : (k : List ℕ) (t : Terms) (w : Verb) → MakesRow k t w → terms_of w ≡ Some t
terms_made k t w (inl (body, (size, e))) = rw e
terms_made k t w (inr (n, e)) = rw e

module _ (c : ℕ) (b : Bucket) (g : Context) (t : Terms) (n : t.retention.mode ≡ None) (u : CountsYears b) where
  abbrev s : Config
  s = b.settings.config

  abbrev now : ℕ
  now = (now_of b g).stamp

  module _ (w : Verb) (p : Accepted c b g (now_of b g) w) where
    fields_sound : sound_default s.default ≡ true
    fields_sound = config_default s (whole c b p.fields.whole).config_sound

    in_years : now ≤ latest
    in_years = omega (arith, leb-true g.clock latest p.fields.instant, leb-true b.settings.time latest (whole c b p.fields.whole).time_fits)

    row_made : (k : List ℕ) (body size : ℕ) → default_too_late s now t.retention ≡ false → rows_after b (now_of b g) w ≡ insert_by_key (new_row b.settings now k body size t) b.rows
        → MadeForYears g.clock b k (after b (asked g w))
    row_made k body size l e =
        let until_is = new_until_lem s now fields_sound u in_years t.retention n in
        record {
          row = new_row b.settings now k body size t;
          is_added = e;
          key_is = refl;
          number_is = refl;
          created_now = refl;
          mode_is = new_mode_lem s now fields_sound u in_years t.retention n;
          ends = rw until_is (default_ends s now fields_sound u in_years);
          in_time = rw until_is (no_later s now fields_sound u in_years t.retention n l);
        }

  -- An accepted PUT or COPY that makes a version.
  pub made_for_years : (k : List ℕ) (w : Verb) → MakesRow k t w → Accepted c b g (now_of b g) w → MadeForYears g.clock b k (after b (asked g w))
  unfolding too_late rows_after
  made_for_years k w (inl (body, (size, e))) p = row_made w p k body size (rw e at p.in_time) (rw e)
  made_for_years k w (inr (m, e)) p = row_made w p k (then_some (row_of b.rows m) 0 (λ x. x.body)) (then_some (row_of b.rows m) 0 (λ x. x.size)) (rw e at p.in_time) (rw e)

-- ## Refusal 10

module _ (w : Bool) (c : ℕ) (b : Bucket) (q : Request) where
  abbrev at : Now
  at = now_of b q.context

  abbrev meaning : Verb
  meaning = meant b.rows q.verb

  abbrev late : Verb → Bool
  late v = too_late b.settings.config at.stamp v

  -- the conditions of the line, in order
  abbrev all_checks : List Check
  all_checks = checks w c b (says q)

  -- Condition 10 holds of a line that meets 10, as it is written too.
  pub meets_ten : first_of all_checks ≡ 10 → late q.verb ≡ true
  unfolding too_late
  meets_ten e =
      let h : late meaning ≡ true = sym (or-false (late meaning)) ∙ first_among all_checks 10 e (λ z. omega arith) in
      elim (meant_ways b.rows q.verb) [
        | inl m ↦ rw m at h
        | inr (n, m) ↦ absurd (false≢true (rw m at h))
      ]

  -- Where it holds, 11 and 12 are not met.
  pub late_not_11 : sound c b ≡ true → late q.verb ≡ true → first_of all_checks ≡ 11 → ⊥
  late_not_11 s l e =
      elim (meant_ways b.rows q.verb) [
        | inl m ↦ let p : late q.verb ≡ false = rw m at (not-true (late meaning) (sym (and-true (not (late meaning))) ∙ first_passed all_checks 10 11 e (λ z. omega arith))) in true≢false (sym l ∙ p)
        | inr (n, m) ↦
            let h : spends b at (Ask (Repeat n)) ≡ true = rw m at (sym (or-false (spends b at meaning)) ∙ first_among all_checks 11 e (λ z. omega arith)) in
            true≢false (sym h ∙ retry_unspent c b at n s)
      ]

  pub late_not_12 : sound c b ≡ true → late q.verb ≡ true → first_of all_checks ≡ 12 → ⊥
  late_not_12 s l e =
      elim (meant_ways b.rows q.verb) [
        | inl m ↦ let p : late q.verb ≡ false = rw m at (not-true (late meaning) (sym (and-true (not (late meaning))) ∙ first_passed all_checks 10 12 e (λ z. omega arith))) in true≢false (sym l ∙ p)
        | inr (n, m) ↦
            let h : full c b at (Ask (Repeat n)) ≡ true = rw m at (sym (or-false (full c b at meaning)) ∙ first_among all_checks 12 e (λ z. omega arith)) in
            true≢false (sym h ∙ retry_fits c b at n s)
      ]
