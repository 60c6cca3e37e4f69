-- `judge_get` meets its contract.
use mathlib.Core.Path.{◌≡◌}
use Rattle.std.proofs.Common.{arith, Err}
use Rattle.std.proofs.lemmas.Grind.{common_steps}
use Rattle.judge.proofs.Naming.{data_ways}
use borrow.Author.Rules.{rules}
use Rattle.judge.proofs.judge_get.Goals as goal

pub returns-in_err-named : goal.returns-in_err-named
returns-in_err-named c = λ who us fs. let q : c.from_residual.result ≡ Err c.in_err-named.field-0.0 = grind (arith, common_steps) in rw q (search (rules, data_ways, c.in_err-named.was))

pub returns : goal.returns
returns c = λ who us fs. search (rules, data_ways, c.in_ok-named.was)
