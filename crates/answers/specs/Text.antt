-- The text of an accepted line's answer.
use Rattle.std.specs.Prelude.{ℕ, List, [], ◌∷◌, ◌++◌, eqb, length}
use Rattle.buffers.specs.Choices.{pick}
use Rattle.buffers.specs.Texts.{bytes}
use Rattle.text.specs.Printing.{digits}
use Rattle.text.specs.Fields.{tabbed}
use Rattle.dates.specs.Printing.{print_date}
use Rattle.model.specs.Rows.{Row, is_data, governance}
use Rattle.model.specs.Requests.{Version, numbered}
use Rattle.model.specs.Reports.{Totals}
use Rattle.model.specs.Answers.{Answer, done, made, repeated, marked, removed, removed_marker, swept_counts, shown, listed, reported}

-- no answer of one line is longer than this
abbrev pub longest_answer : ℕ
longest_answer = 256

-- the fields each behind a tab, and a line feed
unfoldable pub fields_text : List (List ℕ) → List ℕ
fields_text fs = tabbed fs ++ 10 ∷ []

-- `ok` and the fields
unfoldable pub ok_text : List (List ℕ) → List ℕ
ok_text fs = bytes "ok" ++ fields_text fs

abbrev pub version_text : Version → List ℕ
version_text (numbered n) = digits n

-- GOVERNANCE, COMPLIANCE, `-` if none
unfoldable pub mode_text : ℕ → List ℕ
mode_text m = pick (eqb m 0) (bytes "-") (pick (eqb m governance) (bytes "GOVERNANCE") (bytes "COMPLIANCE"))

-- the retain-until date, `-` if there is no mode
unfoldable pub until_text : ℕ → ℕ → List ℕ
until_text m d = pick (eqb m 0) (bytes "-") (print_date d)

-- ON or OFF
unfoldable pub hold_text : ℕ → List ℕ
hold_text h = pick (eqb h 0) (bytes "OFF") (bytes "ON")

-- GET's fields: version, body, length, mode, date, hold
abbrev pub row_fields : Row → List (List ℕ)
row_fields x = digits x.number ∷ digits x.body ∷ digits x.size ∷ mode_text x.mode ∷ until_text x.mode x.until ∷ hold_text x.hold ∷ []

-- ## LIST's page

-- a version's fields behind its number: `data`, creation date, body, length, mode, date, hold
abbrev pub data_fields : Row → List (List ℕ)
data_fields x =
    bytes "data" ∷ print_date x.created ∷ digits x.body ∷ digits x.size ∷ mode_text x.mode ∷ until_text x.mode x.until ∷ hold_text x.hold ∷ []

-- a marker's: `marker`, creation date; body, length, mode and date are `-`, hold is OFF
abbrev pub marker_fields : ℕ → List (List ℕ)
marker_fields created = bytes "marker" ∷ print_date created ∷ bytes "-" ∷ bytes "-" ∷ bytes "-" ∷ bytes "-" ∷ bytes "OFF" ∷ []

-- a row's fields behind its number
unfoldable pub kind_fields : Row → List (List ℕ)
kind_fields x = pick (is_data x) (data_fields x) (marker_fields x.created)

-- a row's fields behind its key
abbrev pub fields_behind_key : Row → List (List ℕ)
fields_behind_key x = digits x.number ∷ kind_fields x

-- the nine fields of a row's line
abbrev pub line_fields : Row → List (List ℕ)
line_fields x = x.key ∷ fields_behind_key x

-- the line, its fields parted by tabs
abbrev pub row_line : Row → List ℕ
row_line x = x.key ++ tabbed (fields_behind_key x)

-- the line and its line feed
abbrev pub row_text : Row → List ℕ
row_text x = row_line x ++ 10 ∷ []

abbrev pub row_texts : List Row → List ℕ
row_texts [] = []
row_texts (x ∷ xs) = row_text x ++ row_texts xs

-- a page: `ok` and the number of rows, then a line for each
unfoldable pub page_text : List Row → List ℕ
page_text xs = ok_text (digits (length xs) ∷ []) ++ row_texts xs

-- ## REPORT's fields

-- data rows, markers, the sum of the data lengths, locked data rows
abbrev pub totals_fields : Totals → List (List ℕ)
totals_fields t = digits t.versions ∷ digits t.markers ∷ digits t.size ∷ digits t.locked ∷ []

-- ## The answers

abbrev pub answer_text : Answer → List ℕ
answer_text done = ok_text []
answer_text (made v) = ok_text (version_text v ∷ [])
answer_text (repeated v) = ok_text (version_text v ∷ [])
answer_text (marked v) = ok_text (version_text v ∷ bytes "marker" ∷ [])
answer_text (removed v) = ok_text (version_text v ∷ bytes "removed" ∷ [])
answer_text (removed_marker v) = ok_text (version_text v ∷ bytes "removed-marker" ∷ [])
answer_text (swept_counts gone new) = ok_text (digits gone ∷ digits new ∷ [])
answer_text (shown x) = ok_text (row_fields x)
answer_text (listed xs) = page_text xs
answer_text (reported t) = ok_text (totals_fields t)
