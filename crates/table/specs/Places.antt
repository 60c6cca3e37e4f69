-- A row at a position of the buffers, and when a change may be made there.
use Rattle.std.specs.Prelude.{ℕ, ◌*◌, ◌≤◌, ◌<◌, List, get_or, take, drop}
use Rattle.blocks.specs.Blocks.{key_in}
use Rattle.model.specs.Rows.{Row}
use Rattle.table.specs.Layout.{rows_of, capacity, Holds}
use Rattle.table.specs.declared.Numbers.{Numbers}

-- the row of these numbers and this key
abbrev pub row_from : Numbers → List ℕ → Row
row_from n k =
    record { number = n.number; kind = n.kind; created = n.created; body = n.body; size = n.size; mode = n.mode; until = n.until; hold = n.hold; key = k }

-- the numbers in a list of eight
abbrev pub numbers_in : List ℕ → Numbers
numbers_in ns =
    record { number = get_or ns 0 0; kind = get_or ns 1 0; created = get_or ns 2 0; body = get_or ns 3 0; size = get_or ns 4 0; mode = get_or ns 5 0; until = get_or ns 6 0; hold = get_or ns 7 0 }

-- the numbers of the row at a position, counted from 0
abbrev pub row_numbers : List ℕ → ℕ → Numbers
row_numbers numbers i = numbers_in (take 8 (drop (8 * i) numbers))

-- the key at a position
abbrev pub key_at : List ℕ → ℕ → List ℕ
key_at keys i = key_in (take 64 (drop (64 * i) keys))

-- A row can be put in at this position: it is a used row's or the next one, and a row is free.
pub record Insertable (numbers keys : List ℕ) (used at : ℕ) : Type 0 where
  pub held : Holds (capacity keys) (rows_of numbers keys used) numbers keys
  pub within : at ≤ used
  pub free : used < capacity keys

-- The row at this position is in use.
pub record InUse (numbers keys : List ℕ) (used at : ℕ) : Type 0 where
  pub held : Holds (capacity keys) (rows_of numbers keys used) numbers keys
  pub below : at < used
