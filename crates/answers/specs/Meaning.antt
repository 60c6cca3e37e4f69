-- What each case of the code's answers stands for.
use Rattle.std.specs.Prelude.{ℕ, ◌≤◌, List, []}
use Rattle.calendar.specs.Calendar.{latest}
use Rattle.model.specs.Requests.{numbered}
use Rattle.model.specs.Reports as reports
use Rattle.model.specs.Answers as model
use Rattle.table.specs.Places.{row_from}
use Rattle.answers.specs.declared.Totals.{Totals}
use Rattle.answers.specs.declared.Answer.{Answer}
use Rattle.answers.specs.declared.Answer.TheVariants.{Done, Made, Marked, Removed, RemovedMarker, Swept, Got}
use Rattle.answers.specs.Text.{answer_text}

-- the code's totals, as the model's
abbrev pub totals_mean : Totals → reports.Totals
totals_mean t = record { versions = t.versions; markers = t.markers; size = t.size; locked = t.locked }

-- the text of a row that GET shows does not tell its key
abbrev pub answer_means : Answer → model.Answer
answer_means Done = model.done
answer_means (Made n) = model.made (numbered n)
answer_means (Marked n) = model.marked (numbered n)
answer_means (Removed n) = model.removed (numbered n)
answer_means (RemovedMarker n) = model.removed_marker (numbered n)
answer_means (Swept gone new) = model.swept_counts gone new
answer_means (Got n) = model.shown (row_from n [])

-- the text of the code's answer
abbrev pub text_of : Answer → List ℕ
text_of a = answer_text (answer_means a)

-- a date that an answer prints is an instant
abbrev pub Printable : Answer → Type 0
Printable Done = Unit
Printable (Made n) = Unit
Printable (Marked n) = Unit
Printable (Removed n) = Unit
Printable (RemovedMarker n) = Unit
Printable (Swept gone new) = Unit
Printable (Got n) = n.until ≤ latest
