-- `judge_delete` meets its contract.
use mathlib.Core.Path.{◌≡◌}
use Rattle.std.proofs.Common.{arith, Err}
use Rattle.std.proofs.lemmas.Grind.{common_steps}
use Rattle.judge.proofs.Naming.{delete_ways}
use borrow.Author.Rules.{rules}
use Rattle.judge.proofs.judge_delete.Goals as goal

pub returns-then-is_locked : goal.returns-then-is_locked
returns-then-is_locked c = λ who us fs. search (rules, delete_ways, c.in_ok-named.was)

pub returns-then-is_marker : goal.returns-then-is_marker
returns-then-is_marker c = λ who us fs. search (rules, delete_ways, c.in_ok-named.was)

pub returns-in_err-named : goal.returns-in_err-named
returns-in_err-named c = λ who us fs. let q : c.from_residual.result ≡ Err c.in_err-named.field-0.0 = grind (arith, common_steps) in rw q (search (rules, delete_ways, c.in_err-named.was))

pub returns-else-is_marker : goal.returns-else-is_marker
returns-else-is_marker c = λ who us fs. search (rules, delete_ways, c.in_ok-named.was)
