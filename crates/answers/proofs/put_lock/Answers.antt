-- `put_lock` meets its contract.
use Rattle.answers.proofs.Writing.{three_last}
use borrow.Author.Rules.{rules}
use Rattle.answers.proofs.put_lock.Goals as goal

pub returns : goal.returns
returns c = search (rules, three_last)
