-- `serve_get` meets its contract.
use mathlib.Core.Path.{◌≡◌}
use Rattle.std.proofs.Common.{arith, Err}
use Rattle.std.proofs.lemmas.Grind.{common_steps}
use Rattle.engine.proofs.Serving.{gets}
use borrow.Author.Rules.{rules}
use Rattle.engine.proofs.serve_get.Goals as goal

pub new-table-requires : goal.new-table-requires
new-table-requires c = search (rules, gets)

pub judge_get-requires-clause-asked : goal.judge_get-requires-clause-asked
judge_get-requires-clause-asked c = search (rules, gets)

pub judge_get-requires-clause-inside : goal.judge_get-requires-clause-inside
judge_get-requires-clause-inside c = search (rules, gets)

pub write_answer-len-requires : goal.write_answer-len-requires
write_answer-len-requires c = search (rules, gets, c.in_ok-plan.was)

pub returns-in_err-plan : goal.returns-in_err-plan
returns-in_err-plan c = let q : c.from_residual.result ≡ Err c.in_err-plan.field-0.0 = grind (arith, common_steps) in rw q (search (rules, gets, c.in_err-plan.was))

pub returns : goal.returns
returns c = search (rules, gets, c.in_ok-plan.was)
