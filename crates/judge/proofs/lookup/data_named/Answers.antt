-- `data_named` meets its contract.
use Rattle.std.proofs.Common.{arith, []}
use Rattle.std.proofs.lemmas.Grind.{common_steps}
use Rattle.judge.specs.Named.{data_named}
use Rattle.judge.proofs.lookup.data_named.Goals as goal

pub returns-then-is_marker : goal.returns-then-is_marker
unfolding data_named
returns-then-is_marker c = grind (arith, common_steps, c.is_marker.ensures [])

pub returns : goal.returns
unfolding data_named
returns c = grind (arith, common_steps, c.is_marker.ensures [])
