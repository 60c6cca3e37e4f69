-- Between two lines, those that came before are served, and what they print waits.
use Rattle.std.proofs.Common.{length, ◌+◌, ◌-◌}
use Rattle.bucket.specs.Whole.{lent_with}
use Rattle.bucketrun.specs.Course.{BetweenLines}
use Rattle.bucketrun.proofs.serve_some.Given as goal

abbrev pub invariant-loop-at : goal.invariant-loop-at
invariant-loop-at l = BetweenLines (lent_with l.initial.after l.initial.entries l.initial.rows l.initial.keys) l.block l.from l.initial.entries l.initial.out (lent_with l.after l.entries l.rows l.keys) l.entries l.out l.at l.i

abbrev pub decreases-loop-at : goal.decreases-loop-at
decreases-loop-at l = length l.block + 1 - l.i
