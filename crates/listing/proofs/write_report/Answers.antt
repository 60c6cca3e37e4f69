-- `write_report` meets its contract.
use Rattle.listing.proofs.Totals.{report_cases}
use borrow.Author.Rules.{rules}
use Rattle.listing.proofs.write_report.Goals as goal

pub returns : goal.returns
returns c = search (rules, report_cases)
