-- `move_down` meets its contract.
use Rattle.buffers.proofs.Moves.{down_is}
use borrow.Author.Rules.{rules}
use Rattle.buffers.proofs.move_down.Goals as goal

pub returns : goal.returns
returns g c = search (rules, down_is)
