-- `write_numbers` meets its contract: the numbers before `i` are written.
use Rattle.knitpasture.proofs.Numbers.{Writing}
use Rattle.knitpasture.proofs.write_numbers.Given as goal

abbrev pub invariant-loop-i : goal.invariant-loop-i
invariant-loop-i l = Writing l.numbers l.initial.b l.b l.i
