-- `new` meets its contract.
use Rattle.lifecycle.proofs.Bounding.{bound_cases}
use borrow.Author.Rules.{rules}
use Rattle.lifecycle.proofs.laid.LaidRule.new.Goals as goal

pub overflow_add-high : goal.overflow_add-high
overflow_add-high c = search (rules, bound_cases)

pub invariant_of-result : goal.invariant_of-result
invariant_of-result c = record { block = c.requires; bounded = search (rules, bound_cases) }
