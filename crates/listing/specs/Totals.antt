-- What REPORT's pass over the rows needs, and what it comes to.
use Rattle.std.specs.Prelude.{ℕ, ◌+◌, ◌*◌, ◌≤◌, ◌<◌, ◌≡◌, List, length}
use Rattle.buffers.specs.Choices.{pick}
use Rattle.model.specs.Rows.{Row, is_data, is_marker, largest_size}
use Rattle.model.specs.Reports as model
use Rattle.model.specs.Reports.{is_locked_data}
use Rattle.table.specs.Contents.{row_no}
use Rattle.answers.specs.declared.Totals.{Totals}

-- the totals with a row more
abbrev pub with_row : ℕ → Row → model.Totals → model.Totals
with_row now x t =
    record {
      versions = t.versions + pick (is_data x) 1 0;
      markers = t.markers + pick (is_marker x) 1 0;
      size = t.size + pick (is_data x) x.size 0;
      locked = t.locked + pick (is_locked_data now x) 1 0;
    }

-- The totals of at most so many rows.
pub record Bounded (count : ℕ) (t : Totals) : Type 0 where
  pub versions : t.versions ≤ count
  pub markers : t.markers ≤ count
  pub size : t.size ≤ count * largest_size
  pub locked : t.locked ≤ count

-- No sum of these rows' numbers is too large, and each row is data or a marker.
pub record Countable (xs : List Row) (end : ℕ) : Type 0 where
  pub there : end ≤ length xs
  pub few : end ≤ 1024
  pub sized : (i : ℕ) → i < end → (row_no xs i).size ≤ largest_size
  pub kinds : (i : ℕ) → i < end → ((row_no xs i).kind ≡ 1 → ⊥) → (row_no xs i).kind ≡ 2
