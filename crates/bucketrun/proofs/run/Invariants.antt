-- Between two blocks, what came before is read, served and written, but for the start of a line.
use Rattle.bucket.specs.Whole.{lent_with}
use Rattle.bucketrun.specs.Course.{BetweenBlocks}
use Rattle.bucketrun.proofs.run.Given as goal

abbrev pub invariant-loop : goal.invariant-loop
invariant-loop g l =
    BetweenBlocks (lent_with l.initial.after l.initial.entries l.initial.rows l.initial.keys) l.initial.entries l.initial.input l.initial.out (g.R.Read.remaining l.initial.reader) (g.W.Write.contents l.initial.writer)
    (lent_with l.after l.entries l.rows l.keys) l.entries l.input l.out (g.R.Read.remaining l.reader) (g.W.Write.contents l.writer) l.kept
