-- `set_rule` meets its contract.
use Rattle.settings.proofs.Storing.{stored_cases}
use borrow.Author.Rules.{rules}
use Rattle.settings.proofs.set_rule.Goals as goal

pub returns-then-current-noncurrent : goal.returns-then-current-noncurrent
returns-then-current-noncurrent c = search (rules, stored_cases)

pub returns-else-current-noncurrent : goal.returns-else-current-noncurrent
returns-else-current-noncurrent c = search (rules, stored_cases)
