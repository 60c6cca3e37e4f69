-- `insert_row` meets its contract.
use Rattle.table.proofs.Steps.{row_cases}
use borrow.Author.Rules.{rules}
use Rattle.table.proofs.insert_row.Goals as goal

pub open_at-requires : goal.open_at-requires
open_at-requires c = search (rules, row_cases)

pub write_numbers-requires : goal.write_numbers-requires
write_numbers-requires c = search (rules, row_cases)

pub returns : goal.returns
returns c = search (rules, row_cases)
