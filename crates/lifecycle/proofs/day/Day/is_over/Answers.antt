-- `is_over` meets its contract.
use Rattle.std.proofs.Common.{arith}
use Rattle.std.proofs.lemmas.Grind.{common_steps}
use Rattle.lifecycle.specs.Days.{over}
use Rattle.lifecycle.proofs.day.Day.is_over.Goals as goal

pub returns-then-days-ne0 : goal.returns-then-days-ne0
unfolding over
returns-then-days-ne0 c = grind (arith, common_steps)

pub returns-else-days-ne0 : goal.returns-else-days-ne0
unfolding over
returns-else-days-ne0 c = grind (arith, common_steps)
