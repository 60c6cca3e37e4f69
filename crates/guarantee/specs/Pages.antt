-- Pages of versions: what pages that follow each other show, by what a caller sees of them.
use Rattle.std.specs.Prelude.{ℕ, ◌≡◌, Bool, true, false, ◌&&◌, List, [], ◌∷◌, ◌++◌, map, eqb, ltb, length}
use Rattle.std.specs.Prelude.{Some}
use Rattle.buffers.specs.Choices.{or_zero}
use Rattle.buffers.specs.Lists.{keep, all, any, same}
use Rattle.buffers.specs.Texts.{bytes}
use Rattle.text.specs.Numbers.{number_of}
use Rattle.text.specs.Fields.{fields, field_of}
use Rattle.dates.specs.Reading.{read_date}
use Rattle.model.specs.Rows.{Row}
use Rattle.model.specs.Requests.{Page, ListVersions, Ask, Request, says, largest_count}
use Rattle.model.specs.Pages.{matches, page_rows}
use Rattle.bucket.specs.Whole.{Lent, bucket_of}
use Rattle.answers.specs.Text.{line_fields, row_line}
use Rattle.answers.specs.Pages.{lines_shown, last_key, last_version}
use Rattle.outcome.specs.Calls.{Call, heard}
use Rattle.outcome.specs.Outcome.{outcome}
use Rattle.knitpasture.specs.Bytes.{Bytes, lent_of}
use Rattle.guarantee.specs.Exchanges.{Exchange, exchanges, byte_exchanges, sent_field}

-- ## Pages that follow each other

-- LIST was sent with this prefix, from this key and this version, byte for byte, and accepted.
abbrev pub is_page_from : List ℕ → List ℕ → List ℕ → Exchange → Bool
is_page_from prefix key version e =
    eqb e.number 0
    && (same (sent_field e.sent 2) (bytes "LIST")
    && (same (sent_field e.sent 3) prefix
    && (same (sent_field e.sent 4) key
    && same (sent_field e.sent 5) version)))

-- The count that was sent.
abbrev pub count_sent : Exchange → ℕ
count_sent e = or_zero (number_of largest_count (sent_field e.sent 6))

-- The lines that a page shows.
abbrev pub shown_by : Exchange → List (List ℕ)
shown_by e = lines_shown e.answer

-- Pages of a prefix from a key and a version on: each next starts at the key and the version in the last line of the one before, and the last shows fewer lines than its count.
abbrev pub are_pages : List ℕ → List ℕ → List ℕ → List Exchange → Bool
are_pages prefix key version [] = false
are_pages prefix key version (e ∷ []) = is_page_from prefix key version e && ltb (length (shown_by e)) (count_sent e)
are_pages prefix key version (e ∷ f ∷ es) =
    is_page_from prefix key version e && are_pages prefix (last_key e.answer) (last_version e.answer) (f ∷ es)

-- From the start: the empty key and version 0.
abbrev pub follow_pages : List ℕ → List Exchange → Bool
follow_pages prefix es = are_pages prefix [] (bytes "0") es

-- The lines that exchanges show, joined.
abbrev pub all_shown : List Exchange → List (List ℕ)
all_shown [] = []
all_shown (e ∷ es) = shown_by e ++ all_shown es

-- ## The promise

-- The rows whose keys begin with the prefix, in table order.
abbrev pub matching_rows : List ℕ → Lent → List Row
matching_rows prefix b = keep (matches prefix) (bucket_of b).rows

-- how often a line stands among some lines
abbrev pub times : List ℕ → List (List ℕ) → ℕ
times l ls = length (keep (same l) ls)

-- Every matching row of the bucket once, and no others: the lines are those of exactly these rows, in order;
-- so each matching row's line stands there once, and each line is a matching row's.
pub record ShowsEachOnce (prefix : List ℕ) (b : Lent) (ls : List (List ℕ)) : Type 0 where
  pub exactly : ls ≡ map row_line (matching_rows prefix b)
  pub each_once : all (λ x. eqb (times (row_line x) ls) 1) (matching_rows prefix b) ≡ true
  pub no_others : all (λ l. any (λ x. same l (row_line x)) (matching_rows prefix b)) ls ≡ true

-- Accepted pages of one prefix that follow each other from the start to one with fewer rows than its count, with no other line between: on any bucket, with answer buffers of any contents and lengths.
abbrev pub PagesShowAll : Type 0
PagesShowAll = (prefix : List ℕ) (b : Lent) (gs : List Call) → follow_pages prefix (exchanges b gs) ≡ true → ShowsEachOnce prefix b (all_shown (exchanges b gs))

-- The same of the C entry, with bytes of any contents and lengths.
abbrev pub PagesShowAllBytes : Type 0
PagesShowAllBytes = (prefix : List ℕ) (b : Bytes) (gs : List Call) → follow_pages prefix (byte_exchanges b gs) ≡ true → ShowsEachOnce prefix (lent_of b) (all_shown (byte_exchanges b gs))

-- ## Every line of a page reads back

-- A line has the row's nine fields, and both dates read as the row's instants; a row without a mode has no date.
pub record LineReadsBack (x : Row) (l : List ℕ) : Type 0 where
  pub nine : fields l ≡ line_fields x
  pub created : read_date (field_of l 3) ≡ Some x.created
  pub until : (x.mode ≡ 0 → ⊥) → read_date (field_of l 7) ≡ Some x.until
  pub no_date : x.mode ≡ 0 → field_of l 7 ≡ bytes "-"

-- Row by row.
abbrev pub LinesReadBack : List Row → List (List ℕ) → Type 0
LinesReadBack [] [] = Unit
LinesReadBack [] (l ∷ ls) = ⊥
LinesReadBack (x ∷ xs) [] = ⊥
LinesReadBack (x ∷ xs) (l ∷ ls) = LineReadsBack x l × LinesReadBack xs ls

-- In the answer buffer after an accepted LIST the lines are those of the page's rows.
abbrev pub PageReadsBack : Lent → Call → Type 0
PageReadsBack b g = (p : Page) (q : Request) → (outcome b g).number ≡ 0 → heard g ≡ says q → q.verb ≡ Ask (ListVersions p) → LinesReadBack (page_rows p (bucket_of b).rows) (lines_shown (outcome b g).answer)
