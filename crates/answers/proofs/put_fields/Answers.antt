-- `put_fields` meets its contract.
use Rattle.answers.proofs.Writing.{fields_cases}
use borrow.Author.Rules.{rules}
use Rattle.answers.proofs.put_fields.Goals as goal

pub returns-then-is_data : goal.returns-then-is_data
returns-then-is_data c = search (rules, fields_cases)

pub returns-else-is_data : goal.returns-else-is_data
returns-else-is_data c = search (rules, fields_cases)
