-- An accepted line meets none of the conditions, as it is written and as it is meant, and a line that meets none is accepted.
use Prim.Native.Nat.{ℕ, suc}
use mathlib.Core.Path.{◌≡◌, refl}
use mathlib.Core.Logic.{◌⊎◌, inl, inr}
use mathlib.Core.Bool.{Bool, true, false}
use mathlib.Core.List.{List}
use Rattle.std.specs.Prelude.{Option, Some, None}
use native.Mathlib.Omega.{arith}
use lib.Dec.{leb, ltb}
use borrow.Author.Tests.{not-false}
use Rattle.buffers.specs.Choices.{pick, then_some}
use Rattle.buffers.proofs.Tests.{and_l, and_r}
use Rattle.calendar.specs.declared.Now.{Now}
use Rattle.calendar.specs.Calendar.{latest}
use Rattle.model.specs.Rows.{Row}
use Rattle.model.specs.Settings.{Bucket, sound}
use Rattle.model.specs.Requests.{Version, numbered, Repeat, Verb, Put, Copy, Retain, Hold, AddMarker, DeleteVersion, Set, Sweep, Ask, Context, Request, says, in_range}
use Rattle.model.specs.Time.{now_of}
use Rattle.model.specs.Retries.{retry_of, meant}
use Rattle.model.specs.Refusals.{half_given, needs, lacks_right, short_for_page, past_date, missing, names_marker, barred, too_late, spends, full, refusal}

-- ## What a verb means

-- What holds of a verb and of every retry, holds of what the verb means.
pub meant_either : (xs : List Row) (v : Verb) (P : Verb → Type 0) → P v → ((n : Version) → P (Ask (Repeat n))) → P (meant xs v)
meant_either xs (Put k body size t) P p r = go (retry_of xs k body size)
  where
    go : (o : Option Row) → P (then_some o (Put k body size t) (λ x. Ask (Repeat (numbered x.number))))
    go None = p
    go (Some x) = r (numbered x.number)
meant_either xs (Copy n k t) P p r = p
meant_either xs (Retain n t y) P p r = p
meant_either xs (Hold n on) P p r = p
meant_either xs (AddMarker k y) P p r = p
meant_either xs (DeleteVersion k v y) P p r = p
meant_either xs (Set s) P p r = p
meant_either xs Sweep P p r = p
meant_either xs (Ask q) P p r = p

-- A verb means itself, or it is a retry.
pub meant_ways : (xs : List Row) (v : Verb) → (meant xs v ≡ v) ⊎ ((n : Version) × (meant xs v ≡ Ask (Repeat n)))
meant_ways xs v = meant_either xs v (λ w. (w ≡ v) ⊎ ((n : Version) × (w ≡ Ask (Repeat n)))) (inl refl) (λ n. inr (n, refl))

-- ## The conditions

-- None of the conditions before those on the table holds, a field for each.
pub record FieldsPass (c : ℕ) (b : Bucket) (g : Context) (now : Now) (v : Verb) : Type 0 where
  pub whole : sound c b ≡ true
  pub roomy : ltb g.room 256 ≡ false
  pub instant : leb g.clock latest ≡ true
  pub is_in_range : in_range v ≡ true
  pub not_half : half_given v ≡ false
  pub permitted : lacks_right b.settings.config g.who v ≡ false
  pub page_fits : short_for_page g.room v ≡ false
  pub future : past_date now.stamp v ≡ false

-- None of those on the table either.
pub record Accepted (c : ℕ) (b : Bucket) (g : Context) (now : Now) (w : Verb) : Type 0 where
  pub fields : FieldsPass c b g now w
  pub present : missing b.rows w ≡ false
  pub no_marker : names_marker b.rows w ≡ false
  pub free : barred b.rows now.judge w ≡ false
  pub in_time : too_late b.settings.config now.stamp w ≡ false
  pub unspent : spends b now w ≡ false
  pub fitting : full c b now w ≡ false

-- A retry has no fields of its own.
pub retry_fields : (c : ℕ) (b : Bucket) (g : Context) (now : Now) (v : Verb) (n : Version) → FieldsPass c b g now v → FieldsPass c b g now (Ask (Repeat n))
unfolding in_range half_given needs lacks_right short_for_page past_date
retry_fields c b g now v n p =
    record { whole = p.whole; roomy = p.roomy; instant = p.instant; is_in_range = refl; not_half = refl; permitted = refl; page_fits = refl; future = refl }

fields_meant : (c : ℕ) (b : Bucket) (g : Context) (now : Now) (v : Verb) → FieldsPass c b g now v → FieldsPass c b g now (meant b.rows v)
fields_meant c b g now v p = meant_either b.rows v (λ w. FieldsPass c b g now w) p (λ n. retry_fields c b g now v n p)

-- The first of several is none: the first condition fails, and the first of the others is none.
skip : (a : Bool) (n m : ℕ) → pick a (suc n) m ≡ 0 → (a ≡ false) × (m ≡ 0)
skip true n m e = absurd (omega arith)
skip false n m e = (refl, e)

module _ (c : ℕ) (b : Bucket) (q : Request) where
  -- An accepted line, as it is written and as it is meant.
  pub record Line : Type 0 where
    pub written : FieldsPass c b q.context (now_of b q.context) q.verb
    pub meaning : Accepted c b q.context (now_of b q.context) (meant b.rows q.verb)

  line_is : refusal c b (says q) ≡ 0 → Line
  unfolding refusal
  line_is e =
      let s1 = skip _ _ _ e in
      let s2 = skip _ _ _ s1.1 in
      let s3 = skip _ _ _ s2.1 in
      let s4 = skip _ _ _ s3.1 in
      let s5 = skip _ _ _ s4.1 in
      let s6 = skip _ _ _ s5.1 in
      let s7 = skip _ _ _ s6.1 in
      let s8 = skip _ _ _ s7.1 in
      let s9 = skip _ _ _ s8.1 in
      let s10 = skip _ _ _ s9.1 in
      let s11 = skip _ _ _ s10.1 in
      let s12 = skip _ _ _ s11.1 in
      let s13 = skip _ _ _ s12.1 in
      let ranges = not-false _ s3.0 in
      let p : FieldsPass c b q.context (now_of b q.context) q.verb = record {
        whole = not-false _ s1.0;
        roomy = s2.0;
        instant = and_l _ _ ranges;
        is_in_range = and_r (leb q.context.clock latest) _ ranges;
        not_half = s4.0;
        permitted = s5.0;
        page_fits = s6.0;
        future = s7.0;
      } in
      record {
        written = p;
        meaning = record {
          fields = fields_meant c b q.context (now_of b q.context) q.verb p;
          present = s8.0;
          no_marker = s9.0;
          free = s10.0;
          in_time = s11.0;
          unspent = s12.0;
          fitting = s13.0;
        };
      }

  pub written_line : refusal c b (says q) ≡ 0 → FieldsPass c b q.context (now_of b q.context) q.verb
  written_line e = (line_is e).written

  pub accepted_line : refusal c b (says q) ≡ 0 → Accepted c b q.context (now_of b q.context) (meant b.rows q.verb)
  accepted_line e = (line_is e).meaning

  pub accepts : Line → refusal c b (says q) ≡ 0
  unfolding refusal
  accepts l =
      let w = l.written in
      let p = l.meaning in
      simp (w.whole, w.roomy, w.instant, w.is_in_range, w.not_half, w.permitted, w.page_fits, w.future, p.present, p.no_marker, p.free, p.in_time, p.unspent, p.fitting)
