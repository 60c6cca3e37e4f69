-- `serve_sweep` meets its contract.
use mathlib.Core.Path.{◌≡◌}
use Rattle.std.proofs.Common.{arith, Err}
use Rattle.std.proofs.lemmas.Grind.{common_steps}
use Rattle.engine.proofs.Counting.{sweep_uncounted, sweep_counted}
use Rattle.engine.proofs.Serving.{sweeps, sweep_stops}
use borrow.Author.Rules.{rules}
use Rattle.engine.proofs.serve_sweep.Goals as goal

pub new-table-requires : goal.new-table-requires
new-table-requires c = search (rules, sweeps)

pub judge_sweep-judged-requires-clause-whole : goal.judge_sweep-judged-requires-clause-whole
judge_sweep-judged-requires-clause-whole c = search (rules, sweeps)

pub judge_sweep-judged-requires-clause-asked : goal.judge_sweep-judged-requires-clause-asked
judge_sweep-judged-requires-clause-asked c = search (rules, sweeps)

pub judge_sweep-judged-requires-clause-sweepable : goal.judge_sweep-judged-requires-clause-sweepable
judge_sweep-judged-requires-clause-sweepable c = search (rules, sweeps)

pub returns-in_err-plan-clause-answer_after : goal.returns-in_err-plan-clause-answer_after
returns-in_err-plan-clause-answer_after c =
    let q : c.from_residual.result ≡ Err c.in_err-plan.field-0.0 = grind (arith, common_steps) in
    rw q (sweep_stops _ _ _ _ _ _ _ c.requires.passing _ c.new-table.ensures _ _ c.judge_sweep-judged.ensures.judged _ c.in_err-plan.was)

pub returns-in_err-plan-clause-comparisons_value : goal.returns-in_err-plan-clause-comparisons_value
returns-in_err-plan-clause-comparisons_value c =
    let q : c.from_residual.result ≡ Err c.in_err-plan.field-0.0 = grind (arith, common_steps) in
    rw q (sweep_uncounted _ _ _ _ _ _ _ c.requires.passing _ c.new-table.ensures _ _ c.judge_sweep-judged.ensures.judged _ c.in_err-plan.was)

pub carry_out-done-requires : goal.carry_out-done-requires
carry_out-done-requires c = search (rules, sweeps, c.in_ok-plan.was)

pub returns-clause-answer_after : goal.returns-clause-answer_after
returns-clause-answer_after c = search (rules, sweeps, c.in_ok-plan.was)

pub returns-clause-comparisons_value : goal.returns-clause-comparisons_value
returns-clause-comparisons_value c = search (rules, sweep_counted, c.in_ok-plan.was)
