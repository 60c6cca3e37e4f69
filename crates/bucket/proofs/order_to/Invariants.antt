-- `order_to` meets its contract.
use Prim.Native.Nat.{◌-◌}
use lib.ListN.{take, drop}
use mathlib.Core.Path.{◌≡◌}
use Rattle.bucket.proofs.order_to.Given as goal

abbrev pub invariant-loop-i : goal.invariant-loop-i
invariant-loop-i l = take l.i (drop 1 l.a) ≡ take l.i (drop 1 l.b)

abbrev pub decreases-loop-i : goal.decreases-loop-i
decreases-loop-i l = l.to - l.i
