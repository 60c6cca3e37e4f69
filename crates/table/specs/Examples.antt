-- Rows in small buffers, computed.
use Rattle.std.specs.Prelude.{◌≡◌, refl, [], ◌∷◌, replicate}
use Rattle.buffers.specs.Texts.{bytes}
use Rattle.blocks.specs.Blocks.{block_of}
use Rattle.model.specs.Rows.{Row}
use Rattle.table.specs.Layout.{numbers_of, keys_of, rows_of, capacity}
use Rattle.table.specs.Changes.{insert_at, remove_at}

-- a data row and a delete marker
abbrev photo : Row
photo = record { number = 7; kind = 1; created = 1000; body = 42; size = 512; mode = 2; until = 9000; hold = 1; key = bytes "photo" }

abbrev marker : Row
marker = record { number = 3; kind = 2; created = 500; body = 0; size = 0; mode = 0; until = 0; hold = 0; key = bytes "a" }

pub record Examples : Type 0 where
  pub numbers : numbers_of 2 (photo ∷ []) ≡ 7 ∷ 1 ∷ 1000 ∷ 42 ∷ 512 ∷ 2 ∷ 9000 ∷ 1 ∷ replicate 8 0
  pub keys : keys_of 2 (marker ∷ []) ≡ 1 ∷ 97 ∷ replicate 126 0
  pub fresh : numbers_of 3 [] ≡ replicate 24 0
  pub back : rows_of (numbers_of 3 (marker ∷ photo ∷ [])) (keys_of 3 (marker ∷ photo ∷ [])) 2 ≡ marker ∷ photo ∷ []
  pub room : capacity (keys_of 3 (photo ∷ [])) ≡ 3
  pub inserted : insert_at 0 marker (photo ∷ []) ≡ marker ∷ photo ∷ []
  pub behind : insert_at 1 marker (photo ∷ []) ≡ photo ∷ marker ∷ []
  pub removed : remove_at 0 (marker ∷ photo ∷ []) ≡ photo ∷ []

-- each by computing
pub examples : Examples
unfolding block_of
examples = record { numbers = refl; keys = refl; fresh = refl; back = refl; room = refl; inserted = refl; behind = refl; removed = refl }
