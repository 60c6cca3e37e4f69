-- `judge_rows` meets its contract.
use Rattle.lifecycle.proofs.Judging.{JudgingKeys}
use Rattle.lifecycle.specs.LaidRules.{rules_in}
use Rattle.std.proofs.Common.{◌-◌, length}
use Rattle.lifecycle.proofs.judge_rows.Given as goal

abbrev pub invariant-loop-i : goal.invariant-loop-i
invariant-loop-i g l = JudgingKeys g.F.FateCell.cell g.F.FateCell.fate_in (rules_in l.rules) l.today.instant l.table.rows l.initial.fates l.fates l.judged l.i

abbrev pub decreases-loop-i : goal.decreases-loop-i
decreases-loop-i g l = length l.table.rows - l.i
