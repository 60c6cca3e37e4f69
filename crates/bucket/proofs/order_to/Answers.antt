-- `order_to` meets its contract.
use Rattle.bucket.proofs.Ordering.{eight_cases, eight_after, eight_shared}
use borrow.Author.Rules.{rules}
use Rattle.bucket.proofs.order_to.Goals as goal

pub returns-then-x-y : goal.returns-then-x-y
returns-then-x-y c = search (rules, eight_cases, eight_after, eight_shared)

pub returns-then-y-x : goal.returns-then-y-x
returns-then-y-x c = search (rules, eight_cases, eight_after, eight_shared)

pub loop-i-preserved : goal.loop-i-preserved
loop-i-preserved c = search (rules, eight_cases, eight_after, eight_shared)

pub returns : goal.returns
returns c = search (rules, eight_cases, eight_after, eight_shared)
