-- 01, "Request lines": what an accepted line answers after `ok`, as values.
use Rattle.std.specs.Prelude.{ℕ, Bool, false, List, eqb}
use Rattle.std.specs.Prelude.{Some}
use Rattle.buffers.specs.Choices.{pick, then_some}
use Rattle.calendar.specs.declared.Now.{Now}
use Rattle.model.specs.Rows.{Row, is_marker}
use Rattle.model.specs.Settings.{Bucket}
use Rattle.model.specs.Requests.{Rights, Version, numbered, name, Get, ListVersions, Report, Repeat, Verb, Put, Copy, Retain, Hold, AddMarker, DeleteVersion, Set, Sweep, Ask, Request}
use Rattle.model.specs.Time.{now_of}
use Rattle.model.specs.Pages.{page_rows}
use Rattle.model.specs.Reports.{Totals, totals_of}
use Rattle.model.specs.Effects.{row_of, added, removed as rows_removed}

pub data Answer : Type 0 where
  -- nothing after `ok`
  done : Answer
  -- PUT and COPY that make a version: its number
  made : Version → Answer
  -- a PUT that is a retry: the number of the row that is there
  repeated : Version → Answer
  -- DELETE: the number and `marker`, `removed` or `removed-marker`
  marked : Version → Answer
  removed : Version → Answer
  removed_marker : Version → Answer
  -- SWEEP: rows removed and markers added
  swept_counts : (gone new : ℕ) → Answer
  -- GET: the row
  shown : Row → Answer
  -- LIST: the rows
  listed : List Row → Answer
  -- REPORT: the totals
  reported : Totals → Answer

-- How answers name the row that the line adds.
abbrev pub new_version : Bucket → Version
new_version b = numbered b.settings.next

-- What a sender with these rights is answered.
unfoldable pub reply : Bucket → Now → Rights → Verb → Answer
reply b now who (Put k body size t) = made (new_version b)
reply b now who (Copy n k t) = made (new_version b)
reply b now who (Retain n r y) = done
reply b now who (Hold n on) = done
reply b now who (AddMarker k y) = marked (new_version b)
reply b now who (DeleteVersion k v y) = pick (then_some (row_of b.rows (name k (Some v))) false is_marker) (removed_marker v) (removed v)
reply b now who (Set s) = done
reply b now who Sweep = swept_counts (rows_removed b now Sweep) (added b now Sweep)
reply b now who (Ask (Get n)) = then_some (row_of b.rows n) done (λ x. shown x)
reply b now who (Ask (ListVersions p)) = listed (page_rows p b.rows)
reply b now who (Ask (Report prefix)) = reported (totals_of prefix now.judge b.rows)
reply b now who (Ask (Repeat v)) = repeated v

abbrev pub answer_to : Bucket → Request → Answer
answer_to b q = reply b (now_of b q.context) q.context.who q.verb

-- The answer is that of a PUT or COPY that makes a version, and gives this number.
abbrev pub gives_number : ℕ → Answer → Bool
gives_number v done = false
gives_number v (made (numbered n)) = eqb n v
gives_number v (repeated n) = false
gives_number v (marked n) = false
gives_number v (removed n) = false
gives_number v (removed_marker n) = false
gives_number v (swept_counts g n) = false
gives_number v (shown x) = false
gives_number v (listed xs) = false
gives_number v (reported t) = false
