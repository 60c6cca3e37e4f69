-- `serve_action` meets its contract.
use mathlib.Core.Path.{◌≡◌}
use Rattle.std.proofs.Common.{arith, Err}
use Rattle.std.proofs.lemmas.Grind.{common_steps}
use Rattle.engine.proofs.Serving.{actions}
use borrow.Author.Rules.{rules}
use Rattle.engine.proofs.serve_action.Goals as goal

pub new-table-requires : goal.new-table-requires
new-table-requires c = search (rules, actions)

pub judge-requires-clause-asked : goal.judge-requires-clause-asked
judge-requires-clause-asked c = search (rules, actions)

pub judge-requires-clause-action_inside : goal.judge-requires-clause-action_inside
judge-requires-clause-action_inside c = search (rules, actions)

pub carry_out-done-requires : goal.carry_out-done-requires
carry_out-done-requires c = search (rules, actions, c.in_ok-plan.was)

pub returns-in_err-plan : goal.returns-in_err-plan
returns-in_err-plan c = let q : c.from_residual.result ≡ Err c.in_err-plan.field-0.0 = grind (arith, common_steps) in rw q (search (rules, actions, c.in_err-plan.was))

pub returns : goal.returns
returns c = search (rules, actions, c.in_ok-plan.was)
