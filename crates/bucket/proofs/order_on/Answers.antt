-- `order_on` meets its contract.
use Rattle.bucket.proofs.Ordering.{block_cases, not_same}
use borrow.Author.Rules.{rules}
use Rattle.bucket.proofs.order_on.Goals as goal

pub order_last-requires-clause-a_value : goal.order_last-requires-clause-a_value
order_last-requires-clause-a_value c = search (rules, block_cases, not_same)

pub returns-in-Greater : goal.returns-in-Greater
returns-in-Greater c = search (rules, block_cases, not_same)
