-- `judge_sweep` meets its contract.
use Rattle.judge.proofs.Sweeping.{sweep_ways}
use borrow.Author.Rules.{rules}
use Rattle.judge.proofs.judge_sweep.Goals as goal

pub judge_table-judged-requires-clause-judgeable : goal.judge_table-judged-requires-clause-judgeable
judge_table-judged-requires-clause-judgeable g c = search (rules, sweep_ways)

pub returns-then-s-new-clause-judged : goal.returns-then-s-new-clause-judged
returns-then-s-new-clause-judged g c = search (rules, sweep_ways)

pub returns-then-room-s-clause-judged : goal.returns-then-room-s-clause-judged
returns-then-room-s-clause-judged g c = search (rules, sweep_ways)

pub returns-else-room-s-clause-judged : goal.returns-else-room-s-clause-judged
returns-else-room-s-clause-judged g c = let b = g.met.F.FateCell.back in search (rules, sweep_ways)
