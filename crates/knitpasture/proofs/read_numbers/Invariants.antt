-- `read_numbers` meets its contract: the numbers before `i` are read.
use lib.ListN.{length}
use Rattle.knitpasture.proofs.Numbers.{Reading}
use Rattle.knitpasture.proofs.read_numbers.Given as goal

abbrev pub invariant-loop-i : goal.invariant-loop-i
invariant-loop-i l = Reading l.b (length l.initial.numbers) l.numbers l.i
