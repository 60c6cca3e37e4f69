-- `serve` meets its contract.
use mathlib.Core.Path.{◌≡◌}
use Rattle.std.proofs.Common.{arith, Err}
use Rattle.std.proofs.lemmas.Grind.{common_steps}
use Rattle.engine.proofs.Serving.{by_value}
use borrow.Author.Rules.{rules}
use Rattle.engine.proofs.serve.Goals as goal

pub returns-in_err-done : goal.returns-in_err-done
returns-in_err-done c = let q : c.from_residual.result ≡ Err c.in_err-done.field-0.0 = grind (arith, common_steps) in rw q (search (rules, by_value, c.in_err-done.was))

pub returns : goal.returns
returns c = search (rules, by_value, c.in_ok-done.was)
