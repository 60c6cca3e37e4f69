-- The ranks between which the keys of a prefix lie.
use Rattle.std.specs.Prelude.{◌≡◌, ℕ, ◌+◌, ◌-◌, ◌^◌, List, length}
use Rattle.search.specs.Keys.{rank}

-- The keys that a prefix begins have ranks between these two: its own, and the last that the bytes behind it can spell.
pub record Bounded (prefix : List ℕ) (low high : ℕ) : Type 0 where
  pub low_is : low ≡ rank 8 prefix
  pub high_is : high + 1 ≡ rank 8 prefix + 256 ^ (8 - length prefix)
