-- What REPORT prints is what the lines of the pages of its prefix come to.
use Prim.Native.Nat.{ℕ, ◌≤◌}
use mathlib.Core.Path.{◌≡◌, sym, ◌∙◌, ap, ap₂, subst⁻¹}
use mathlib.Core.Logic.{inl, inr}
use mathlib.Core.Bool.{Bool, true, false, not, ◌&&◌, ◌||◌, false≢true, and-true, and-false}
use mathlib.Core.List.{List, [], ◌∷◌, map}
use Rattle.std.specs.Prelude.{Some}
use native.Mathlib.Omega.{arith}
use lib.Dec.{eqb, leb, ltb}
use lib.ListN.{length, length-map}
use borrow.Author.Tests.{eqb-true, eqb-false, eq-eqb, ne_eqb, leb-true}
use Rattle.buffers.specs.Choices.{or_zero}
use Rattle.buffers.specs.Lists.{keep, total, all, same}
use Rattle.buffers.specs.Texts.{bytes}
use Rattle.buffers.proofs.Tests.{either, and_l, and_r, or_one}
use Rattle.buffers.proofs.Lists.{keep_map, keep_among, all_keep, all_both, all_kept, total_map, total_as}
use Rattle.text.specs.Fields.{fields, field_of}
use Rattle.text.specs.Lines.{first_line}
use Rattle.text.proofs.RoundTrip.{number_back}
use Rattle.calendar.specs.Calendar.{latest}
use Rattle.dates.specs.Reading.{read_date}
use Rattle.model.specs.Rows.{Row, is_data, is_marker, governance, compliance, bodies, largest_size, sound_retention, sound_data, sound_row}
use Rattle.model.specs.Locks.{locked}
use Rattle.model.specs.Requests.{Report, Ask}
use Rattle.model.specs.Pages.{matches}
use Rattle.model.specs.Reports.{Totals, is_locked_data, totals, totals_of}
use Rattle.model.specs.Answers.{reported, reply}
use Rattle.model.specs.Run.{left}
use Rattle.model.proofs.SoundRows.{row_parts, row_marker, row_size, row_date, sound_key}
use Rattle.model.proofs.Sound as model
use Rattle.table.specs.Layout.{capacity}
use Rattle.bucket.specs.Whole.{Lent, bucket_of, whole}
use Rattle.bucket.proofs.Whole.{whole_parts}
use Rattle.request.specs.Grammar.{asked}
use Rattle.request.proofs.Words.{line_clock}
use Rattle.request.proofs.Pages.{asks_report}
use Rattle.answers.specs.Text.{mode_text, until_text, hold_text, kind_fields, line_fields, row_line, totals_fields, answer_text}
use Rattle.answers.proofs.Pages.{line_fields_lem}
use Rattle.answers.proofs.ReadBack.{until_reads, totals_fields_lem}
use Rattle.outcome.specs.Calls.{Call}
use Rattle.outcome.specs.Outcome.{written, outcome}
use Rattle.outcome.proofs.Demands.{accepted_request, outcome_number, accepted_of_whole}
use Rattle.knitpasture.specs.Bytes.{lent_of}
use Rattle.guarantee.specs.Calls.{step}
use Rattle.guarantee.specs.Bytes.{byte_step}
use Rattle.guarantee.specs.Exchanges.{Exchange, exchange, exchanges, sent_field, is_served, byte_exchange, byte_exchanges}
use Rattle.guarantee.specs.Pages.{follow_pages, all_shown, matching_rows}
use Rattle.guarantee.specs.Reports.{says_data, says_marker, length_said, says_locked, totals_shown, is_report_of, now_sent, PrintsTotals, ReportThenPages, PagesThenReport, ReportThenPagesBytes, PagesThenReportBytes}
use Rattle.guarantee.proofs.Said.{accepted_read, read_field, read_same}
use Rattle.guarantee.proofs.Bytes.{accepted_sized, same_exchange, sized_after, spelled_after, sized_left, spelled_left, spelled_exchanges}
use Rattle.guarantee.proofs.Listed.{asked_stay}
use Rattle.guarantee.proofs.Pages.{first_accepted, pages_keep, pages_show_all}

-- ## A row's line says what the row holds

hold_said : (h : ℕ) → leb h 1 ≡ true → same (hold_text h) (bytes "ON") ≡ eqb h 1
unfolding hold_text
hold_said h l =
    elim (either (eqb h 0)) [
      | inl z ↦ rw z (sym (ne_eqb h 1 (λ q. omega (arith, eqb-true h 0 z))))
      | inr z ↦ rw z (sym (eq-eqb h 1 (omega (arith, leb-true h 1 l, eqb-false h 0 z))))
    ]

module _ (now m d : ℕ) where
  -- mode and date in a line lock
  abbrev dated_said : Bool
  dated_said = (same (mode_text m) (bytes "GOVERNANCE") || same (mode_text m) (bytes "COMPLIANCE")) && ltb now (or_zero (read_date (until_text m d)))

  -- mode and date in a row lock without bypass
  abbrev dated : Bool
  dated = ltb now d && (eqb m compliance || (eqb m governance && not false))

  dated_said_lem : sound_retention m d ≡ true → d ≤ latest → dated_said ≡ dated
  unfolding mode_text
  dated_said_lem s l =
      elim (either (eqb m 0)) [
        | inl z ↦ rw (z, ne_eqb m compliance (λ q. omega (arith, eqb-true m 0 z)), ne_eqb m governance (λ q. omega (arith, eqb-true m 0 z))) (sym (and-false (ltb now d)))
        | inr z ↦
            let reads : read_date (until_text m d) ≡ Some d = until_reads m d (eqb-false m 0 z) l in
            elim (or_one (eqb m governance) _ (and_l _ _ (rw z at s))) [
              | inl g ↦ rw (z, g, reads, ne_eqb m compliance (λ q. omega (arith, eqb-true m governance g))) (sym (and-true (ltb now d)))
              | inr c ↦ rw (z, c, reads, ne_eqb m governance (λ q. omega (arith, eqb-true m compliance c))) (sym (and-true (ltb now d)))
            ]
      ]

module _ (next time : ℕ) where
  module _ (x : Row) (e : sound_row next time x ≡ true) where
    line_is : fields (row_line x) ≡ line_fields x
    line_is = line_fields_lem x (sound_key next time x e)

    data_said : says_data (row_line x) ≡ is_data x
    unfolding field_of kind_fields
    data_said =
        elim (either (is_data x)) [
          | inl d ↦ rw (line_is, d)
          | inr d ↦ rw (line_is, d)
        ]

    marker_said : says_marker (row_line x) ≡ is_marker x
    unfolding field_of kind_fields
    marker_said =
        elim (either (is_data x)) [
          | inl d ↦ rw (line_is, d) (sym (ne_eqb x.kind 2 (λ q. omega (arith, eqb-true x.kind 1 d))))
          | inr d ↦ rw (line_is, d) (sym (eq-eqb x.kind 2 (row_marker next time x e d)))
        ]

    module _ (d : is_data x ≡ true) where
      length_said_lem : length_said (row_line x) ≡ x.size
      unfolding field_of kind_fields
      length_said_lem = rw (line_is, d) (ap or_zero (number_back largest_size x.size (row_size next time x e)))

      sound_data_lem : sound_data x ≡ true
      sound_data_lem = rw d at (row_parts next time x e).rest

      locked_said : (now : ℕ) → says_locked now (row_line x) ≡ locked now false x
      unfolding field_of kind_fields locked
      locked_said now =
          let kept = and_r (leb x.size largest_size) _ (and_r (ltb x.body bodies) _ sound_data_lem) in
          rw (line_is, d) (ap₂ (λ (a b : Bool). a || b)
          (hold_said x.hold (and_r (sound_retention x.mode x.until) _ kept))
          (dated_said_lem now x.mode x.until (and_l _ _ kept) (row_date next time x e)))

    locked_data_said : (now : ℕ) → (says_data (row_line x) && says_locked now (row_line x)) ≡ is_locked_data now x
    locked_data_said now =
        elim (either (is_data x)) [
          | inl d ↦ rw (data_said, d) (locked_said d now)
          | inr d ↦ rw (data_said, d)
        ]

  -- ## So the lines of sound rows come to the rows' totals

  module _ (xs : List Row) (e : all (sound_row next time) xs ≡ true) where
    -- The lines that pass a test are those of the rows that pass it,
    kept_said : (says : List ℕ → Bool) (p : Row → Bool) → ((x : Row) → sound_row next time x ≡ true → says (row_line x) ≡ p x) → keep says (map row_line xs) ≡ map row_line (keep p xs)
    kept_said says p f = keep_map row_line says xs ∙ ap (map row_line) (keep_among (sound_row next time) (λ x. says (row_line x)) p f xs e)

    -- and as many.
    count_said : (says : List ℕ → Bool) (p : Row → Bool) → ((x : Row) → sound_row next time x ≡ true → says (row_line x) ≡ p x) → length (keep says (map row_line xs)) ≡ length (keep p xs)
    count_said says p f = ap length (kept_said says p f) ∙ length-map (keep p xs) row_line

    size_said : total length_said (keep says_data (map row_line xs)) ≡ total (λ x. x.size) (keep is_data xs)
    size_said =
        ap (total length_said) (kept_said says_data is_data data_said)
        ∙ total_map row_line length_said (keep is_data xs)
        ∙ total_as (λ x. sound_row next time x && is_data x) (λ x. length_said (row_line x)) (λ x. x.size)
        (λ x s. length_said_lem x (and_l _ _ s) (and_r (sound_row next time x) _ s)) (keep is_data xs)
        (all_both (sound_row next time) is_data (keep is_data xs) (all_keep (sound_row next time) is_data xs e) (all_kept is_data xs))

    pub totals_said : (now : ℕ) → totals_shown now (map row_line xs) ≡ totals now xs
    totals_said now =
        rw (
          count_said says_data is_data data_said,
          count_said says_marker is_marker marker_said,
          size_said,
          count_said (λ l. says_data l && says_locked now l) (is_locked_data now) (λ x s. locked_data_said x s now),
        )

-- ## An accepted REPORT

-- It answers the totals of the rows at its now, and leaves the rows.
record Reported (prefix : List ℕ) (b : Lent) (g : Call) : Type 0 where
  is_whole : whole b ≡ true
  answer_is : (outcome b g).answer ≡ written (answer_text (reported (totals_of prefix (now_sent b g.sent) (bucket_of b).rows))) g.answer
  rows_stay : (bucket_of (step b g)).rows ≡ (bucket_of b).rows

module _ (prefix : List ℕ) (b : Lent) (g : Call) (e : is_report_of prefix (exchange b g) ≡ true) where
  served_0 : (outcome b g).number ≡ 0
  served_0 = eqb-true _ 0 (and_l _ _ (and_l _ _ e))

  is_reported : Reported prefix b g
  unfolding reply
  is_reported =
      let r = accepted_read b g served_0 in
      let q = asked (length g.answer) r.said in
      let word = read_same r 2 (bytes "REPORT") (and_r (eqb (outcome b g).number 0) _ (and_l _ _ e)) in
      let field = read_same r 3 prefix (and_r (is_served (bytes "REPORT") (exchange b g)) _ e) in
      let verb : q.verb ≡ Ask (Report prefix) = asks_report r.bytes r.said word r.reads ∙ rw field in
      let clock : or_zero (read_date (sent_field g.sent 0)) ≡ q.context.clock = ap (λ (s : List ℕ). or_zero (read_date s)) (read_field r 0) ∙ ap or_zero (line_clock r.bytes r.said r.reads) in
      record {
        is_whole = accepted_of_whole b g served_0;
        answer_is = rw (accepted_request b g q r.hears (sym (outcome_number b g) ∙ served_0), verb, clock);
        rows_stay = asked_stay b g q (Report prefix) served_0 r.hears verb;
      }

  -- Pages that show the matching rows come to what it prints.
  prints : (pages : List Exchange) → all_shown pages ≡ map row_line (matching_rows prefix b) → PrintsTotals (now_sent b g.sent) (exchange b g) pages
  prints pages shown =
      let now = now_sent b g.sent in
      let r = is_reported in
      let sound = model.whole (capacity b.keys) (bucket_of b) (whole_parts b r.is_whole).is_sound in
      let said = totals_said b.settings.next b.settings.time (matching_rows prefix b) (all_keep _ (matches prefix) (bucket_of b).rows sound.rows_sound) now in
      ap (λ (a : List ℕ). fields (first_line a)) r.answer_is ∙ totals_fields_lem (totals_of prefix now (bucket_of b).rows) _
      ∙ sym (ap (λ (t : Totals). bytes "ok" ∷ totals_fields t) (ap (totals_shown now) shown ∙ said))

-- ## The promise

-- What matches stays where the rows do.
matching_stay : (prefix : List ℕ) (b c : Lent) (ls : List (List ℕ)) → (bucket_of b).rows ≡ (bucket_of c).rows → ls ≡ map row_line (matching_rows prefix b) → ls ≡ map row_line (matching_rows prefix c)
matching_stay prefix b c ls r e = e ∙ ap (λ (xs : List Row). map row_line (keep (matches prefix) xs)) r

pub report_then_pages : ReportThenPages
report_then_pages prefix b g gs e f =
    prints prefix b g e (exchanges (step b g) gs) (matching_stay prefix (step b g) b _ (is_reported prefix b g e).rows_stay (pages_show_all prefix (step b g) gs f).exactly)

pub pages_then_report : PagesThenReport
pages_then_report prefix b gs g e f =
    prints prefix (left step b gs) g f (exchanges b gs) (matching_stay prefix b (left step b gs) _ (sym (pages_keep prefix [] (bytes "0") b gs e)) (pages_show_all prefix b gs e).exactly)

-- ## Over the C entry

pub report_then_pages_bytes : ReportThenPagesBytes
report_then_pages_bytes prefix b g gs e f =
    let c = capacity b.keys in
    let z = accepted_sized b g (eqb-true _ 0 (and_l _ _ (and_l _ _ e))) in
    let report = same_exchange c b g z in
    let pages = spelled_exchanges c (byte_step b g) gs (sized_after c b g z) ∙ ap (λ (l : Lent). exchanges l gs) (spelled_after c b g z) in
    subst⁻¹ (λ (x : Exchange). PrintsTotals (now_sent (lent_of b) g.sent) x (byte_exchanges (byte_step b g) gs)) report
    (subst⁻¹ (PrintsTotals (now_sent (lent_of b) g.sent) (exchange (lent_of b) g)) pages
    (report_then_pages prefix (lent_of b) g gs (sym (ap (is_report_of prefix) report) ∙ e) (sym (ap (follow_pages prefix) pages) ∙ f)))

pub pages_then_report_bytes : PagesThenReportBytes
pages_then_report_bytes prefix b [] g e f = absurd (false≢true e)
pages_then_report_bytes prefix b (h ∷ hs) g e f =
    let c = capacity b.keys in
    let gs = h ∷ hs in
    let later = left byte_step b gs in
    let z = accepted_sized b h (first_accepted prefix [] (bytes "0") (byte_exchange b h) (byte_exchanges (byte_step b h) hs) e) in
    let pages = spelled_exchanges c b gs z in
    let spelled = spelled_left c b gs z in
    let report = same_exchange c later g (sized_left c b gs z) in
    let asked : is_report_of prefix (exchange (left step (lent_of b) gs) g) ≡ true = sym (ap (is_report_of prefix) (report ∙ ap (λ (l : Lent). exchange l g) spelled)) ∙ f in
    subst⁻¹ (λ (x : Exchange). PrintsTotals (now_sent (lent_of later) g.sent) x (byte_exchanges b gs)) report
    (subst⁻¹ (PrintsTotals (now_sent (lent_of later) g.sent) (exchange (lent_of later) g)) pages
    (subst⁻¹ (λ (l : Lent). PrintsTotals (now_sent l g.sent) (exchange l g) (exchanges (lent_of b) gs)) spelled
    (pages_then_report prefix (lent_of b) gs g (sym (ap (follow_pages prefix) pages) ∙ e) asked)))
