-- `read_numbers` meets its contract: each step is one of the cited laws.
use Rattle.knitpasture.proofs.Numbers.{number_cases}
use borrow.Author.Rules.{rules}
use Rattle.knitpasture.proofs.read_numbers.Goals as goal

pub loop-i-preserved : goal.loop-i-preserved
loop-i-preserved c = search (rules, number_cases)

pub returns : goal.returns
returns c = search (rules, number_cases)
