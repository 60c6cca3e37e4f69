-- `print_date` meets its contract.
use Rattle.dates.proofs.Printing.{printed}
use borrow.Author.Rules.{rules}
use Rattle.dates.proofs.print_date.Goals as goal

pub returns : goal.returns
returns c = search (rules, printed)
