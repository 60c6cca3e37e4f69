-- `put_data` meets its contract.
use Rattle.answers.proofs.Writing.{data_wrote}
use borrow.Author.Rules.{rules}
use Rattle.answers.proofs.put_data.Goals as goal

pub returns : goal.returns
returns c = search (rules, data_wrote)
