-- `put_named` meets its contract.
use Rattle.answers.proofs.Writing.{two_last}
use borrow.Author.Rules.{rules}
use Rattle.answers.proofs.put_named.Goals as goal

pub returns : goal.returns
returns g c = search (rules, two_last)
