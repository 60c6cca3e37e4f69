-- The row that a line names, or why it is refused.
use Rattle.std.specs.Prelude.{ℕ, List, ok_or, option_map, ◌==◌, if◌then◌else◌}
use Rattle.std.specs.Prelude.{Option, Some, None}
use Rattle.model.specs.Rows.{Row}
use Rattle.model.specs.Requests.{Version, numbered, Name}
use Rattle.table.specs.Layout.{numbers_of_row}
use Rattle.table.specs.Places.{numbers_in}
use Rattle.std.specs.Prelude.{Result}
use Rattle.std.specs.Prelude.{Ok, Err}
use Rattle.search.specs.Places as places
use Rattle.judge.specs.declared.Named.{Named}
use Rattle.model.specs.declared.Refusal.{Refusal}
use Rattle.model.specs.declared.Refusal.TheVariants.{NoRow, IsMarker}
use Rattle.model.specs.Refusal.{◌>>=◌}

-- what the search finds of a key and a version field
abbrev pub found_by : List Row → List ℕ → Option Version → Result ℕ ℕ
found_by xs k None = places.current_in k xs
found_by xs k (Some (numbered n)) = places.version_in k n xs

-- what was found, with the numbers of its row
abbrev pub row_found : List Row → Result ℕ ℕ → Result Named Refusal
row_found xs (Ok i) = ok_or (option_map (λ x. record { at = i; numbers = numbers_in (numbers_of_row x) }) (places.nth_row xs i)) NoRow
row_found xs (Err i) = Err NoRow

unfoldable pub row_named : List Row → Name → Result Named Refusal
row_named xs n = row_found xs (found_by xs n.key n.version)

-- a row that is data
unfoldable pub data_named : List Row → Name → Result Named Refusal
data_named xs n = do
  m ← row_named xs n
  if m.numbers.kind == 2 then Err IsMarker else Ok m
