-- `judge_older` meets its contract.
use Rattle.lifecycle.proofs.KeyRows.{older_cases}
use borrow.Author.Rules.{rules}
use Rattle.lifecycle.proofs.judge_older.Goals as goal

pub loop-i-init : goal.loop-i-init
loop-i-init g c = search (rules, older_cases)

pub loop-i-preserved : goal.loop-i-preserved
loop-i-preserved g c = let b = g.met.F.FateCell.back in search (rules, older_cases)

pub returns : goal.returns
returns g c = search (rules, older_cases)
