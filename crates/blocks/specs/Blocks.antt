-- 01, "Rows and settings": a key or a prefix in 64 bytes.
use Rattle.std.specs.Prelude.{ℕ, ◌-◌, Bool, List, ◌∷◌, ◌++◌, length, get_or, take, drop, replicate}
use Rattle.buffers.specs.Lists.{same}

-- the 64 bytes of a key: its length, the key, then zeros; of a longer key the first 63 bytes
unfoldable pub block_of : List ℕ → List ℕ
block_of k = length (take 63 k) ∷ take 63 k ++ replicate (63 - length (take 63 k)) 0

-- the key in 64 bytes: from the second byte on, as long as the first says
abbrev pub key_in : List ℕ → List ℕ
key_in block = take (get_or block 0 0) (drop 1 block)

-- the bytes are those of the key that they hold
unfoldable pub is_block : List ℕ → Bool
is_block block = same block (block_of (key_in block))
