-- `fill_in` meets its contract.
use Rattle.buffers.proofs.Writes.{fill_cases}
use borrow.Author.Rules.{rules}
use Rattle.buffers.proofs.fill_in.Goals as goal

pub loop-place-preserved : goal.loop-place-preserved
loop-place-preserved g c = search (rules, fill_cases)

pub returns : goal.returns
returns g c = search (rules, fill_cases)
