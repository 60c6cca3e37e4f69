-- `put_state` meets its contract.
use Rattle.settings.proofs.Encoding.{state_written}
use borrow.Author.Rules.{rules}
use Rattle.settings.proofs.put_state.Goals as goal

pub returns : goal.returns
returns c = search (rules, state_written)
