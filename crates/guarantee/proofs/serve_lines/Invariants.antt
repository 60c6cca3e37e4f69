-- `serve_lines` meets its contract.
use Prim.Native.Nat.{◌+◌, ◌-◌}
use Rattle.bucket.specs.Whole.{lent}
use Rattle.guarantee.specs.Lists.{served_lines, Serving}
use Rattle.text.specs.Lines.{lines_of}
use lib.ListN.{length}
use Rattle.guarantee.proofs.serve_lines.Given as goal

abbrev pub invariant-loop-i : goal.invariant-loop-i
invariant-loop-i l = Serving l.text (served_lines (lent l.initial.after l.initial.rows l.initial.keys) l.initial.answer (lines_of l.text)) (lent l.initial.after l.initial.rows l.initial.keys) l.initial.answer l.i (lent l.after l.rows l.keys) l.answer

abbrev pub decreases-loop-i : goal.decreases-loop-i
decreases-loop-i l = length l.text + 1 - l.i
