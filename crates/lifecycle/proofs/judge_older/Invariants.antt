-- `judge_older` meets its contract.
use Rattle.lifecycle.proofs.KeyRows.{JudgingOlder}
use Rattle.lifecycle.proofs.judge_older.Given as goal

abbrev pub invariant-loop-i : goal.invariant-loop-i
invariant-loop-i g l = JudgingOlder g.F.FateCell.cell g.F.FateCell.fate_in l.table.rows l.from l.to l.days l.today.instant l.today.midnight l.initial.fates l.fates l.i l.removed
