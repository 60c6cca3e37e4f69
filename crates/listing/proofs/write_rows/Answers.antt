-- `write_rows` meets its contract.
use Rattle.listing.proofs.Writing.{lines_cases, lines_more}
use borrow.Author.Rules.{rules}
use Rattle.listing.proofs.write_rows.Goals as goal

pub write_line-at-requires : goal.write_line-at-requires
write_line-at-requires c = search (rules, lines_cases, lines_more)

pub loop-i-preserved : goal.loop-i-preserved
loop-i-preserved c = search (rules, lines_cases, lines_more)
