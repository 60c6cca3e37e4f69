-- `first_rank` meets its contract.
use Rattle.lifecycle.proofs.KeyRows.{same_cases}
use borrow.Author.Rules.{rules}
use Rattle.lifecycle.proofs.rules.first_rank.Goals as goal

pub overflow_mul-at : goal.overflow_mul-at
overflow_mul-at c = search (rules, same_cases)

pub overflow_add-at : goal.overflow_add-at
overflow_add-at c = search (rules, same_cases)

pub rank_at-requires : goal.rank_at-requires
rank_at-requires c = search (rules, same_cases)

pub returns : goal.returns
returns c = search (rules, same_cases)
