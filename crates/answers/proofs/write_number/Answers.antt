-- `write_number` meets its contract.
use Rattle.answers.proofs.Writing.{all_fields}
use borrow.Author.Rules.{rules}
use Rattle.answers.proofs.write_number.Goals as goal

pub returns : goal.returns
returns c = search (rules, all_fields)
