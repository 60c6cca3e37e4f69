-- `search_end` meets its contract.
use Rattle.lifecycle.specs.Judging.{KeyEnding}
use Rattle.std.proofs.Common.{◌-◌}
use Rattle.lifecycle.proofs.search_end.Given as goal

abbrev pub invariant-loop-low : goal.invariant-loop-low
invariant-loop-low l = KeyEnding l.table.rows l.at l.low l.high

abbrev pub decreases-loop-low : goal.decreases-loop-low
decreases-loop-low l = l.high - l.low
