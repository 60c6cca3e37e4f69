-- `remove_row` meets its contract.
use Rattle.table.proofs.Steps.{row_cases}
use borrow.Author.Rules.{rules}
use Rattle.table.proofs.remove_row.Goals as goal

pub close_at-requires : goal.close_at-requires
close_at-requires c = search (rules, row_cases)

pub close_at-requires-2 : goal.close_at-requires-2
close_at-requires-2 c = search (rules, row_cases)

pub returns : goal.returns
returns c = search (rules, row_cases)
