-- A lent table, as its rows in their order, how many it has room for, and its key bytes.
use Rattle.std.specs.Prelude.{ℕ, ◌*◌, ◌<◌, ◌≡◌, true, List, [], length, get_or, take, drop}
use Rattle.blocks.specs.Blocks.{is_block}
use Rattle.model.specs.Rows.{Row}
use Rattle.table.specs.Layout.{rows_of, capacity}
use Rattle.table.specs.declared.Numbers.{Numbers}

pub record Contents : Type 0 where
  pub rows : List Row
  pub room : ℕ
  pub keys : List ℕ

-- what two buffers hold
abbrev pub contents : List ℕ → List ℕ → ℕ → Contents
contents numbers keys used = record { rows = rows_of numbers keys used; room = capacity keys; keys = keys }

-- The block of each used row is whole, as a sweep needs it to compare blocks by words.
pub record WholeBlocks (t : Contents) : Type 0 where
  pub whole : (i : ℕ) → i < length t.rows → is_block (take 64 (drop (64 * i) t.keys)) ≡ true

-- the row at a position; behind the last one any row would do
abbrev pub spare_row : Row
spare_row = record { number = 0; kind = 0; created = 0; body = 0; size = 0; mode = 0; until = 0; hold = 0; key = [] }

abbrev pub row_no : List Row → ℕ → Row
row_no xs i = get_or xs i spare_row

-- a row's numbers
abbrev pub numbers_in_row : Row → Numbers
numbers_in_row x =
    record { number = x.number; kind = x.kind; created = x.created; body = x.body; size = x.size; mode = x.mode; until = x.until; hold = x.hold }
