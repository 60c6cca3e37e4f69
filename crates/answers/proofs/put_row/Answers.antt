-- `put_row` meets its contract.
use Rattle.answers.proofs.Writing.{one_more}
use borrow.Author.Rules.{rules}
use Rattle.answers.proofs.put_row.Goals as goal

pub returns : goal.returns
returns c = search (rules, one_more)
