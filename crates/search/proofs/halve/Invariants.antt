-- `halve` meets its contract.
use Prim.Native.Nat.{◌-◌}
use Rattle.search.proofs.Halving.{Between}
use Rattle.search.proofs.halve.Given as goal

abbrev pub invariant-loop-low : goal.invariant-loop-low
invariant-loop-low g l = Between (goal.F-post g l.order) l.start l.end l.low l.high l.found

abbrev pub decreases-loop-low : goal.decreases-loop-low
decreases-loop-low g l = l.high - l.low
