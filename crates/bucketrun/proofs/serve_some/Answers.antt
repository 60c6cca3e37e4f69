-- A line is served by itself, and what it prints stands behind what waits.
use Rattle.std.proofs.Common.{◌≤◌, arith}
use Rattle.bucketrun.proofs.Serving.{answer_most, next_answered, next_refused, lines_done}
use borrow.Author.Rules.{rules}
use Rattle.bucketrun.proofs.serve_some.Goals as goal
use Rattle.bucketrun.proofs.serve_some.Goals.{in-Ok, in-Err}

pub overflow_add-at : goal.overflow_add-at
overflow_add-at c = let most : c.in-Ok.done.len ≤ 65536 = search (rules, answer_most, c.in-Ok.is) in omega arith

pub loop-at-preserved : goal.loop-at-preserved
loop-at-preserved c =
    elim c.match-serve_whole.branch [
      | in-Ok w ↦ rw (w.after-is, w.out-is, w.at-is) (search (rules, next_answered, w.in-Ok.is))
      | in-Err w ↦ rw (w.after-is, w.out-is, w.at-is) (search (rules, next_refused, w.in-Err.is))
    ]

pub returns-then-block-end : goal.returns-then-block-end
returns-then-block-end c = search (rules, lines_done)
