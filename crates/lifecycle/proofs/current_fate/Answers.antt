-- `current_fate` meets its contract: whether a row is data is the same with any key.
use Rattle.std.proofs.Common.{[], arith}
use Rattle.std.proofs.lemmas.Grind.{common_steps}
use Rattle.lifecycle.specs.Judging.{current_by}
use Rattle.lifecycle.proofs.current_fate.Goals as goal

pub returns-then-is_over : goal.returns-then-is_over
unfolding current_by
returns-then-is_over c = grind (arith, common_steps, c.is_data.ensures [])

pub returns-else-is_data : goal.returns-else-is_data
unfolding current_by
returns-else-is_data c = grind (arith, common_steps, c.is_data.ensures [])
