-- `day_at` meets its contract.
use Rattle.dates.proofs.Pairs.{pair_cases}
use Rattle.dates.proofs.Reading.{digit_sums}
use borrow.Author.Rules.{rules}
use Rattle.dates.proofs.day_at.Goals as goal

pub returns : goal.returns
returns c = search (rules, pair_cases, digit_sums, c.in_ok-century.was)
