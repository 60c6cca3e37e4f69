-- `order_last` meets its contract.
use Rattle.bucket.proofs.Ordering.{block_cases}
use borrow.Author.Rules.{rules}
use Rattle.bucket.proofs.order_last.Goals as goal

pub returns-then-x-y : goal.returns-then-x-y
returns-then-x-y c = search (rules, block_cases)

pub returns-else-x-y : goal.returns-else-x-y
returns-else-x-y c = search (rules, block_cases)
