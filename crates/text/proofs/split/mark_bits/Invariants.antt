-- `mark_bits` meets its contract.
use Rattle.text.proofs.Marks.{Walking}
use Rattle.text.proofs.split.mark_bits.Given as goal

abbrev pub invariant-loop-m : goal.invariant-loop-m
invariant-loop-m l = Walking l.line l.start l.end l.n l.m l.ends

abbrev pub decreases-loop-m : goal.decreases-loop-m
decreases-loop-m l = l.m
