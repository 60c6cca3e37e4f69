-- `compare_rest` meets its contract.
use Prim.Native.Nat.{◌-◌}
use Rattle.search.proofs.Comparing.{Words}
use Rattle.search.proofs.head.compare_rest.Given as goal

abbrev pub invariant-loop-i : goal.invariant-loop-i
invariant-loop-i l = Words l.a l.b l.n l.i

abbrev pub decreases-loop-i : goal.decreases-loop-i
decreases-loop-i l = l.n - l.i
