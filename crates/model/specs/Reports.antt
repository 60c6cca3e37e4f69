-- Document 02, M-105: REPORT, the totals of the rows that match a prefix.
use Rattle.std.specs.Prelude.{ℕ, Bool, false, ◌&&◌, List, length}
use Rattle.buffers.specs.Lists.{keep, total}
use Rattle.model.specs.Rows.{Row, is_data, is_marker}
use Rattle.model.specs.Locks.{locked}
use Rattle.model.specs.Pages.{matches}

-- How many rows are data, how many are markers, the sum of the data lengths, and how many data rows are locked without bypass.
pub record Totals : Type 0 where
  pub versions : ℕ
  pub markers : ℕ
  pub size : ℕ
  pub locked : ℕ

-- The row is data, and locked without bypass.
abbrev pub is_locked_data : ℕ → Row → Bool
is_locked_data now x = is_data x && locked now false x

abbrev pub totals : ℕ → List Row → Totals
totals now xs =
    record {
      versions = length (keep is_data xs);
      markers = length (keep is_marker xs);
      size = total (λ x. x.size) (keep is_data xs);
      locked = length (keep (is_locked_data now) xs);
    }

-- Those of the matching rows.
abbrev pub totals_of : List ℕ → ℕ → List Row → Totals
totals_of prefix now xs = totals now (keep (matches prefix) xs)
