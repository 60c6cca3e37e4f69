-- What a page needs of the rows, and a report of the two buffers.
use Rattle.std.specs.Prelude.{ℕ, ◌<◌, List, length}
use Rattle.model.specs.Rows.{Row, Dated}
use Rattle.table.specs.Contents.{row_no}
use Rattle.table.specs.Layout.{rows_of}
use Rattle.table.specs.Searching.{Searchable}
use Rattle.listing.specs.Totals.{Countable}

-- Their dates are instants.
pub record Listable (xs : List Row) : Type 0 where
  pub dated : (i : ℕ) → i < length xs → Dated (row_no xs i)

-- The used rows are in order, and can be counted.
pub record Reportable (rows keys : List ℕ) (used : ℕ) : Type 0 where
  pub searchable : Searchable rows keys used
  pub countable : Countable (rows_of rows keys used) used
