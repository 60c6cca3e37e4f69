-- `write_totals` meets its contract.
use Rattle.answers.proofs.Writing.{two_then}
use borrow.Author.Rules.{rules}
use Rattle.answers.proofs.write_totals.Goals as goal

pub returns : goal.returns
returns c = search (rules, two_then)
