-- `order_of` meets its contract.
use Rattle.bucket.proofs.Ordering.{block_cases}
use borrow.Author.Rules.{rules}
use Rattle.bucket.proofs.order_of.Goals as goal

pub order_on-requires-clause-a_value : goal.order_on-requires-clause-a_value
order_on-requires-clause-a_value c = search (rules, block_cases)

pub returns-in-Greater : goal.returns-in-Greater
returns-in-Greater c = search (rules, block_cases)
