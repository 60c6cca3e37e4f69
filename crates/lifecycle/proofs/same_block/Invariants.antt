-- `same_block` meets its contract.
use Rattle.lifecycle.proofs.Words.{Alike}
use Rattle.std.proofs.Common.{◌-◌}
use Rattle.lifecycle.proofs.same_block.Given as goal

abbrev pub invariant-loop-i : goal.invariant-loop-i
invariant-loop-i l = Alike l.a l.b l.n l.i

abbrev pub decreases-loop-i : goal.decreases-loop-i
decreases-loop-i l = 72 - l.i
