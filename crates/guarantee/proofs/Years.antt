-- What is made by a default of years is kept until they end, GET shows when, and 10 comes only where that is after the year 9999.
use Prim.Native.Nat.{ℕ, ◌+◌, ◌/◌, ◌≤◌, ◌<◌, max}
use mathlib.Core.Path.{◌≡◌, refl, sym, ◌∙◌, ap, subst, subst⁻¹}
use mathlib.Core.Logic.{inl, inr}
use mathlib.Core.Bool.{true, false}
use Rattle.std.specs.Prelude.{Some, None}
use native.Mathlib.Omega.{arith}
use lib.Dec.{eqb, ltb, lit<}
use lib.ListN.{length}
use borrow.Author.Tests.{eqb-true, eqb-false, leb-true, ltb-true, ltb-false, lt-ltb, le-ltb}
use Rattle.buffers.specs.Lists.{same}
use Rattle.buffers.specs.Texts.{bytes}
use Rattle.buffers.proofs.Tests.{either, and_l, and_r}
use Rattle.text.specs.Fields.{field_of}
use Rattle.calendar.specs.Calendar.{latest, day, civil_of}
use Rattle.calendar.specs.Periods.{YearsEnd}
use Rattle.dates.specs.Reading.{read_date}
use Rattle.dates.proofs.Reading.{read_most}
use Rattle.dates.proofs.Years.{years_printed}
use Rattle.model.specs.Settings.{Bucket, sound}
use Rattle.model.specs.Requests.{name, Get, Repeat, Ask, Request, Heard, unreadable, says}
use Rattle.model.specs.Time.{now_of}
use Rattle.model.specs.Effects.{row_of, added, after}
use Rattle.model.specs.Refusals.{too_late, first_of, checks}
use Rattle.model.specs.Years.{default_of, later_year, MadeForYears}
use Rattle.model.proofs.Accepted.{meant_ways, accepted_line}
use Rattle.model.proofs.Invariant.{asked}
use Rattle.model.proofs.Facts.{first_most}
use Rattle.model.proofs.Sound.{whole as sound_whole, config_default}
use Rattle.model.proofs.Retries.{current_new}
use Rattle.model.proofs.Years.{years_mode, ten_by_years, terms_made, made_for_years, meets_ten, late_not_11, late_not_12}
use Rattle.table.specs.Layout.{capacity}
use Rattle.bucket.specs.Whole.{Lent, bucket_of, whole}
use Rattle.bucket.proofs.Whole.{whole_parts}
use Rattle.request.specs.Grammar as grammar
use Rattle.request.proofs.Words.{line_clock, AsksRow, put_asks_row, copy_asks_row, asks_current}
use Rattle.outcome.specs.Calls.{Call, heard}
use Rattle.outcome.specs.Outcome.{Outcome, refusal_of, outcome}
use Rattle.outcome.proofs.Demands.{outcome_number, outcome_refused, whole_unless_1, accepted_of_whole}
use Rattle.outcome.proofs.Kept.{model_accepts, accepted_bucket}
use Rattle.knitpasture.specs.Bytes.{Bytes, lent_of, ByteOutcome, hub_served}
use Rattle.knitpasture.proofs.Left.{spelling_ways, left_number}
use Rattle.knitpasture.proofs.Hub.{hub_refused}
use Rattle.guarantee.specs.Calls.{step}
use Rattle.guarantee.specs.Bytes.{Sized, byte_step}
use Rattle.guarantee.specs.Exchanges.{Exchange, exchange, byte_exchange, sent_field, is_served}
use Rattle.guarantee.specs.Years.{says_put, key_sent, TakesYears, TakesNumber, KeptForYears, shows_current, EndIsShown, ShowsYears, TenWhereLate, TenByYears, KeptForYearsBytes, ShowsYearsBytes, TenByYearsBytes}
use Rattle.guarantee.proofs.Dates.{date_shown, date_reads_back}
use Rattle.guarantee.proofs.Said.{Read, heard_read, accepted_read, read_field, read_same}
use Rattle.guarantee.proofs.Bytes.{accepted_sized, same_exchange, sized_after, spelled_after}

-- ## The line

module _ (b : Bucket) (g : Call) (clock : ℕ) (x : TakesYears b g.sent clock) (r : Read g) where
  -- what it asks for
  abbrev q : Request
  q = grammar.asked (length g.answer) r.said

  asks : AsksRow r.bytes (key_sent g.sent) q.verb
  asks =
      elim (either (says_put g.sent)) [
        | inl w ↦ rw (w, read_field r 3) (put_asks_row r.bytes r.said (read_same r 2 (bytes "PUT") w) r.reads)
        | inr w ↦
            let copy : same (sent_field g.sent 2) (bytes "COPY") ≡ true = rw w at x.word in
            rw (w, read_field r 5) (copy_asks_row r.bytes r.said (read_same r 2 (bytes "COPY") copy) r.reads)
      ]

  no_mode : asks.terms.retention.mode ≡ None
  no_mode = asks.no_mode (read_same r 6 (bytes "-") x.no_mode)

  clock_is : q.context.clock ≡ clock
  clock_is =
      let t : Some q.context.clock ≡ Some clock = sym (line_clock r.bytes r.said r.reads) ∙ ap read_date (sym (read_field r 0)) ∙ x.clock_read in
      let c : q.context.clock ≡ clock = cc in
      c

-- ## The row

module _ (b : Lent) (g : Call) (clock : ℕ) (x : TakesYears (bucket_of b) g.sent clock) (t : TakesNumber b (step b g)) where
  abbrev before : Bucket
  before = bucket_of b

  -- It was accepted, since a refusal takes no number.
  took_0 : (outcome b g).number ≡ 0
  took_0 =
      elim (either (eqb (outcome b g).number 0)) [
        | inl a ↦ eqb-true _ 0 a
        | inr a ↦ absurd (omega (arith, t, ap (λ (o : Outcome). o.bucket.settings.next) (outcome_refused b g (eqb-false _ 0 a))))
      ]

  is_whole : whole b ≡ true
  is_whole = accepted_of_whole b g took_0

  refusal_0 : refusal_of b g ≡ 0
  refusal_0 = sym (outcome_number b g) ∙ took_0

  row_kept : MadeForYears clock before (key_sent g.sent) (bucket_of (step b g))
  unfolding added
  row_kept =
      let r = accepted_read b g took_0 in
      let line = q before g clock x r in
      let row = asks before g clock x r in
      let left_is = accepted_bucket b g line is_whole r.hears refusal_0 in
      let p = accepted_line (capacity b.keys) before line (model_accepts b g line is_whole r.hears refusal_0) in
      elim (meant_ways before.rows line.verb) [
        | inl m ↦
            let is_after : bucket_of (step b g) ≡ after before line = left_is ∙ rw m in
            let made = made_for_years (capacity b.keys) before line.context row.terms (no_mode before g clock x r) x.counts_years (key_sent g.sent) line.verb row.makes (rw m at p) in
            let at_clock = subst (λ (c : ℕ). MadeForYears c before (key_sent g.sent) (after before line)) (clock_is before g clock x r) made in
            subst⁻¹ (MadeForYears clock before (key_sent g.sent)) is_after at_clock
        | inr (n, m) ↦
            let is_after : bucket_of (step b g) ≡ after before (asked line.context (Ask (Repeat n))) = left_is ∙ rw m in
            absurd (omega (arith, t, ap (λ (y : Bucket). y.settings.next) is_after))
      ]

pub kept_for_years : KeptForYears
kept_for_years = row_kept

-- ## The date that GET shows

pub shows_years : ShowsYears
shows_years b g get clock x t e =
    let left = step b g in
    let served : is_served (bytes "GET") (exchange left get) ≡ true = and_l _ _ e in
    let fields = and_r (is_served (bytes "GET") (exchange left get)) _ e in
    let z = eqb-true _ 0 (and_l _ _ served) in
    let r = accepted_read left get z in
    let made = kept_for_years b g clock x t in
    let row = made.row in
    let word : field_of r.bytes 2 ≡ bytes "GET" = read_same r 2 (bytes "GET") (and_r (eqb (outcome left get).number 0) _ served) in
    let key : field_of r.bytes 3 ≡ row.key = read_same r 3 (key_sent g.sent) (and_l _ _ fields) ∙ sym made.key_is in
    let current : field_of r.bytes 4 ≡ bytes "-" = read_same r 4 (bytes "-") (and_r (same (sent_field get.sent 3) (key_sent g.sent)) _ fields) in
    let n = name row.key None in
    let verb : r.said.verb ≡ Ask (Get n) = asks_current r.bytes r.said word current r.reads ∙ rw key in
    let found : row_of (bucket_of left).rows n ≡ Some row = rw made.is_added (current_new row (bucket_of b).rows) in
    let p = sound_whole (capacity b.keys) (bucket_of b) (whole_parts b (is_whole b g clock x t)).is_sound in
    let has_mode : row.mode ≡ 0 → ⊥ = λ h. years_mode (default_of (bucket_of b)) (config_default (bucket_of b).settings.config p.config_sound) x.counts_years (sym made.mode_is ∙ h) in
    let years = (default_of (bucket_of b)).count in
    let ends : YearsEnd years (max b.settings.time clock) row.until = rw (sym made.created_now) made.ends in
    record {
      end = row.until;
      reads = date_reads_back left get n _ row z r.hears verb found has_mode;
      ends = ends;
      printed = rw (date_shown left get n _ row z r.hears verb found has_mode) (years_printed years _ row.until (omega (arith, ends.later, made.in_time)) made.in_time ends);
    }

-- ## Refusal 10

module _ (b : Lent) (g : Call) (clock : ℕ) (x : TakesYears (bucket_of b) g.sent clock) where
  abbrev bucket : Bucket
  bucket = bucket_of b

  -- a call on a sound bucket, with a line that can be read
  record Judged : Type 0 where
    is_sound : sound (capacity b.keys) bucket ≡ true
    read : Read g
    first_is : (n : ℕ) → (outcome b g).number ≡ n → first_of (checks (whole b) (capacity b.keys) bucket (says (q bucket g clock x read))) ≡ n

  -- what the line asks for
  abbrev said : Judged → Request
  said j = q bucket g clock x j.read

  judged : (n : ℕ) → (outcome b g).number ≡ n → 3 < n → Judged
  unfolding refusal_of
  judged n z h = by_heard (heard g) refl
    where
      number_is : refusal_of b g ≡ n
      number_is = sym (outcome_number b g) ∙ z

      is_whole : whole b ≡ true
      is_whole = whole_unless_1 b g (λ e. omega arith)

      by_heard : (l : Heard) → heard g ≡ l → Judged
      by_heard (unreadable room) e = let m = first_most 3 (checks (whole b) (capacity b.keys) bucket (unreadable room)) refl in absurd (omega (arith, m, rw e at number_is))
      by_heard (says y) e =
          let r = heard_read g y e in
          record { is_sound = (whole_parts b is_whole).is_sound; read = r; first_is = λ k f. rw r.hears at (sym (outcome_number b g) ∙ f) }

  -- Condition 10, on the line as it is written.
  ten_is : (j : Judged) → too_late bucket.settings.config (now_of bucket (said j).context).stamp (said j).verb ≡ ltb 9999 (later_year clock bucket)
  unfolding too_late
  ten_is j =
      let r = j.read in
      let row = asks bucket g clock x r in
      let same_clock = clock_is bucket g clock x r in
      let s = bucket.settings.config in
      let p = sound_whole (capacity b.keys) bucket j.is_sound in
      let now = max bucket.settings.time (said j).context.clock in
      let by_now : now ≤ latest = omega (arith, same_clock, read_most _ clock x.clock_read, leb-true bucket.settings.time latest p.time_fits) in
      let ten = ten_by_years s now (config_default s p.config_sound) x.counts_years by_now row.terms.retention (no_mode bucket g clock x r) in
      rw (terms_made (key_sent g.sent) row.terms (said j).verb row.makes) (ten ∙ ap (λ (c : ℕ). ltb 9999 (later_year c bucket)) same_clock)

  ten_where_late : TenWhereLate (later_year clock bucket) (outcome b g).number (TakesNumber b (step b g))
  ten_where_late =
      let c = capacity b.keys in
      record {
        only_there = λ z.
            let j = judged 10 z (lit< tt) in
            ltb-true 9999 (later_year clock bucket) (sym (ten_is j) ∙ meets_ten (whole b) c bucket (said j) (j.first_is 10 z));
        none_taken = λ late t.
            let m = kept_for_years b g clock x t in
            let year_is = m.ends.is_too_late ∙ ap (λ (t : ℕ). ltb 9999 ((civil_of (t / day)).year + (default_of bucket).count)) m.created_now in
            let over : ltb 9999 (later_year clock bucket) ≡ false = sym year_is ∙ le-ltb latest m.row.until m.in_time in
            omega (arith, late, ltb-false 9999 (later_year clock bucket) over);
        not_11 = λ late z.
            let j = judged 11 z (lit< tt) in
            late_not_11 (whole b) c bucket (said j) j.is_sound (ten_is j ∙ lt-ltb 9999 (later_year clock bucket) late) (j.first_is 11 z);
        not_12 = λ late z.
            let j = judged 12 z (lit< tt) in
            late_not_12 (whole b) c bucket (said j) j.is_sound (ten_is j ∙ lt-ltb 9999 (later_year clock bucket) late) (j.first_is 12 z);
      }

pub years_meet_ten : TenByYears
years_meet_ten = ten_where_late

-- ## Over the C entry

module _ (b : Bytes) (g : Call) (t : TakesNumber (lent_of b) (lent_of (byte_step b g))) where
  took_sized : Sized (capacity b.keys) b
  took_sized =
      elim (either (eqb (hub_served b g).number 0)) [
        | inl a ↦ accepted_sized b g (eqb-true _ 0 a)
        | inr a ↦ absurd (omega (arith, t, ap (λ (o : ByteOutcome). (lent_of o.bytes).settings.next) (hub_refused b g (eqb-false _ 0 a))))
      ]

  left_is : lent_of (byte_step b g) ≡ step (lent_of b) g
  left_is = spelled_after _ b g took_sized

  took_number : TakesNumber (lent_of b) (step (lent_of b) g)
  took_number = sym (ap (λ (l : Lent). l.settings.next) left_is) ∙ t

-- a refusal behind 1 is that of the call on what the bytes spell
spelled_number : (b : Bytes) (g : Call) (n : ℕ) → (hub_served b g).number ≡ n → 1 < n → (outcome (lent_of b) g).number ≡ n
unfolding hub_served
spelled_number b g n =
    spelling_ways b (λ (y : ByteOutcome). y.number ≡ n → 1 < n → (outcome (lent_of b) g).number ≡ n)
    (λ f z h. sym (left_number _ (outcome (lent_of b) g) b g.answer) ∙ z)
    (λ z h. absurd (omega arith))

pub kept_for_years_bytes : KeptForYearsBytes
kept_for_years_bytes b g clock x t =
    subst⁻¹ (λ (l : Lent). MadeForYears clock (bucket_of (lent_of b)) (key_sent g.sent) (bucket_of l)) (left_is b g t) (kept_for_years (lent_of b) g clock x (took_number b g t))

pub shows_years_bytes : ShowsYearsBytes
shows_years_bytes b g get clock x t e =
    let same_exchanges : byte_exchange (byte_step b g) get ≡ exchange (step (lent_of b) g) get =
    same_exchange _ (byte_step b g) get (sized_after _ b g (took_sized b g t)) ∙ ap (λ (l : Lent). exchange l get) (left_is b g t) in
    let shown = shows_years (lent_of b) g get clock x (took_number b g t) (sym (ap (shows_current (key_sent g.sent)) same_exchanges) ∙ e) in
    subst⁻¹ (λ (y : Exchange). EndIsShown (default_of (bucket_of (lent_of b))).count (max (lent_of b).settings.time clock) y.answer) same_exchanges shown

pub years_meet_ten_bytes : TenByYearsBytes
years_meet_ten_bytes b g clock x =
    let y = years_meet_ten (lent_of b) g clock x in
    record {
      only_there = λ z. y.only_there (spelled_number b g 10 z (lit< tt));
      none_taken = λ late t. y.none_taken late (took_number b g t);
      not_11 = λ late z. y.not_11 late (spelled_number b g 11 z (lit< tt));
      not_12 = λ late z. y.not_12 late (spelled_number b g 12 z (lit< tt));
    }
