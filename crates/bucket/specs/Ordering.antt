-- The order of two blocks, by the bytes behind the first.
use Rattle.std.specs.Prelude.{ℕ, Bool, not, ◌&&◌, List, take, drop}
use Rattle.buffers.specs.Lists.{same}
use Rattle.model.specs.Rows.{before}
use Rattle.std.specs.declared.cmp.Ordering.{Ordering}
use Rattle.std.specs.declared.cmp.Ordering.TheVariants.{Less, Equal, Greater}

-- what an `Ordering` says of bytes of which the first n are compared
abbrev pub is_order_to : ℕ → Ordering → List ℕ → List ℕ → Bool
is_order_to n Less s t = before s t
is_order_to n Equal s t = same (take n s) (take n t)
is_order_to n Greater s t = before t s

-- what an `Ordering` says of two blocks: after is all that is neither before nor the same
abbrev pub is_block_order : Ordering → List ℕ → List ℕ → Bool
is_block_order Less a b = before (drop 1 a) (drop 1 b)
is_block_order Equal a b = same a b
is_block_order Greater a b = not (before (drop 1 a) (drop 1 b)) && not (same a b)
