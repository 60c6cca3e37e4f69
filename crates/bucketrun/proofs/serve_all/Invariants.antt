-- Between two parts of a block, the lines that came before are served, and what they print is written.
use Rattle.std.proofs.Common.{length, ◌-◌}
use Rattle.bucket.specs.Whole.{lent_with}
use Rattle.bucketrun.specs.Course.{BetweenParts}
use Rattle.bucketrun.proofs.serve_all.Given as goal

abbrev pub invariant-loop-error : goal.invariant-loop-error
invariant-loop-error g l =
    BetweenParts (lent_with l.initial.after l.initial.entries l.initial.rows l.initial.keys) l.block l.initial.entries l.initial.out (g.W.Write.contents l.initial.writer)
    (lent_with l.after l.entries l.rows l.keys) l.entries l.out (g.W.Write.contents l.writer) l.i

abbrev pub decreases-loop-error : goal.decreases-loop-error
decreases-loop-error g l = length l.block - l.i
