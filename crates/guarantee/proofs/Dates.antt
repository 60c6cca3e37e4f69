-- The date that stands in the answer buffer after an accepted GET is the row's, and reads back as it.
use mathlib.Core.Path.{◌≡◌, sym, ◌∙◌, ap}
use mathlib.Core.Bool.{◌&&◌}
use Rattle.std.specs.Prelude.{Some}
use lib.ListN.{length, drop}
use Rattle.buffers.specs.Lists.{same}
use Rattle.buffers.proofs.Lists.{all_first}
use Rattle.text.specs.Fields.{field_of}
use Rattle.text.specs.Lines.{first_line}
use Rattle.dates.specs.Reading.{read_date}
use Rattle.dates.specs.Printing.{print_date}
use Rattle.dates.proofs.RoundTrip.{round_trip}
use Rattle.model.specs.Rows.{Row, sound_row}
use Rattle.model.specs.Requests.{Name, Get, Ask, Request, says}
use Rattle.model.specs.Effects.{has_version, row_of}
use Rattle.model.specs.Answers.{shown, reply}
use Rattle.model.proofs.SoundRows.{row_date}
use Rattle.table.specs.Layout.{capacity}
use Rattle.bucket.specs.Whole.{Lent, used_rows, bucket_of}
use Rattle.bucket.proofs.Whole.{whole_parts, sound_parts}
use Rattle.answers.specs.Text.{answer_text}
use Rattle.answers.proofs.ReadBack.{until_field}
use Rattle.outcome.specs.Calls.{Call, heard}
use Rattle.outcome.specs.Outcome.{written, outcome}
use Rattle.outcome.proofs.Demands.{accepted_request, outcome_number, accepted_of_whole}
use Rattle.guarantee.specs.Promise.{DateReadsBack}

-- What an accepted GET writes is the text of the row that it names.
shows : (b : Lent) (g : Call) (n : Name) (q : Request) (x : Row) → (outcome b g).number ≡ 0 → heard g ≡ says q → q.verb ≡ Ask (Get n) → row_of (bucket_of b).rows n ≡ Some x
    → (outcome b g).answer ≡ written (answer_text (shown x)) g.answer
unfolding reply
shows b g n q x z h v e = rw (accepted_request b g q h (sym (outcome_number b g) ∙ z), v, e)

-- The fifth field after `ok` is its date.
pub date_shown : (b : Lent) (g : Call) (n : Name) (q : Request) (x : Row) → (outcome b g).number ≡ 0 → heard g ≡ says q → q.verb ≡ Ask (Get n) → row_of (bucket_of b).rows n ≡ Some x
    → (x.mode ≡ 0 → ⊥) → field_of (first_line (outcome b g).answer) 5 ≡ print_date x.until
date_shown b g n q x z h v e m = rw (shows b g n q x z h v e) (until_field x (drop (length (answer_text (shown x))) g.answer) m)

pub date_reads_back : (b : Lent) (g : Call) → DateReadsBack b g
date_reads_back b g n q x z h v e m =
    let w = whole_parts b (accepted_of_whole b g z) in
    let rows = (sound_parts (capacity b.keys) (bucket_of b) w.is_sound).rows_sound in
    let sound = all_first (sound_row b.settings.next b.settings.time) (λ y. same n.key y.key && has_version n.version y) (used_rows b) x rows e in
    ap read_date (date_shown b g n q x z h v e m) ∙ round_trip x.until (row_date _ _ x sound)
