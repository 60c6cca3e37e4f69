-- `put_contents` meets its contract.
use Rattle.answers.proofs.Writing.{two_more}
use borrow.Author.Rules.{rules}
use Rattle.answers.proofs.put_contents.Goals as goal

pub returns : goal.returns
returns c = search (rules, two_more)
