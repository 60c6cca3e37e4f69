-- `put_two` meets its contract.
use Rattle.answers.proofs.Writing.{two_last}
use borrow.Author.Rules.{rules}
use Rattle.answers.proofs.put_two.Goals as goal

pub returns : goal.returns
returns c = search (rules, two_last)
