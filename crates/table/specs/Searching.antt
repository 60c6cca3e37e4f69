-- What a search needs of the two buffers.
use Rattle.std.specs.Prelude.{ℕ, ◌*◌, ◌≤◌, ◌<◌, ◌≡◌, true, List, length, get_or}
use Rattle.table.specs.Layout.{rows_of}
use Rattle.model.specs.Rows.{ordered}

-- the used rows are there, and they are in order
pub record Searchable (rows keys : List ℕ) (used : ℕ) : Type 0 where
  pub numbers_fit : 8 * used ≤ length rows
  pub keys_have_room : 64 * used ≤ length keys
  pub lengths : (i : ℕ) → i < used → get_or keys (64 * i) 0 ≤ 63
  pub in_order : ordered (rows_of rows keys used) ≡ true
