-- `years_later` meets its contract.
use Rattle.calendar.proofs.Later.{laters}
use borrow.Author.Rules.{rules}
use Rattle.calendar.proofs.years_later.Goals as goal

pub year_start-requires : goal.year_start-requires
year_start-requires c = search (rules, laters)

pub year_start-requires-2 : goal.year_start-requires-2
year_start-requires-2 c = search (rules, laters)

pub overflow_sub-result : goal.overflow_sub-result
overflow_sub-result c = search (rules, laters)

pub returns : goal.returns
returns c = search (rules, laters)
