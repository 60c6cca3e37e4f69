-- `totals_between` meets its contract.
use Rattle.listing.proofs.Totals.{totalling_cases, totalling_more}
use borrow.Author.Rules.{rules}
use Rattle.listing.proofs.report.totals_between.Goals as goal

pub loop-i-preserved : goal.loop-i-preserved
loop-i-preserved c = search (rules, totalling_cases, totalling_more)
