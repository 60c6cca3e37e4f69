-- `judge_rows` meets its contract.
use Rattle.lifecycle.proofs.Judging.{keys_step, keys_end, keys_cases}
use Rattle.std.proofs.Common.{arith}
use borrow.Author.Rules.{rules}
use Rattle.lifecycle.proofs.judge_rows.Goals as goal

pub loop-i-init : goal.loop-i-init
loop-i-init g c = search (rules, keys_cases)

pub loop-i-preserved : goal.loop-i-preserved
loop-i-preserved g c = keys_step _ _ _ _ _ _ _ _ _ _ _ c.loop-i.invariant c.requires.laid.0 (omega arith) c.judge_key-key.ensures

pub returns : goal.returns
returns g c = keys_end _ _ _ _ _ _ _ _ _ c.loop-i.invariant (omega arith) c.requires.rows.0 c.len.ensures.in_order
