-- `later_end` meets its contract.
use Rattle.lifecycle.proofs.KeyRows.{next_cases}
use borrow.Author.Rules.{rules}
use Rattle.lifecycle.proofs.later_end.Goals as goal

pub loop-next-preserved : goal.loop-next-preserved
loop-next-preserved c = search (rules, next_cases)

pub returns-then-not-same_key : goal.returns-then-not-same_key
returns-then-not-same_key c = search (rules, next_cases)
