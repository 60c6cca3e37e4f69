-- `put_one` meets its contract.
use Rattle.answers.proofs.Writing.{one_last}
use borrow.Author.Rules.{rules}
use Rattle.answers.proofs.put_one.Goals as goal

pub returns : goal.returns
returns c = search (rules, one_last)
