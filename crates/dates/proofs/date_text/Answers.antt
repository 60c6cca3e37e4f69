-- `date_text` meets its contract.
use Rattle.dates.proofs.Printing.{text_by_pairs}
use borrow.Author.Rules.{rules}
use Rattle.dates.proofs.date_text.Goals as goal

pub returns : goal.returns
returns c = search (rules, text_by_pairs)
