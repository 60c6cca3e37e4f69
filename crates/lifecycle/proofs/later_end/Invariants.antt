-- `later_end` meets its contract.
use Rattle.lifecycle.specs.Judging.{KeyEnding}
use Rattle.std.proofs.Common.{length}
use Rattle.lifecycle.proofs.later_end.Given as goal

abbrev pub invariant-loop-next : goal.invariant-loop-next
invariant-loop-next l = KeyEnding l.table.rows l.at l.next (length l.table.rows)
