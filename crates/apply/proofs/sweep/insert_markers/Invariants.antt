-- `insert_markers` meets its contract: each way through it is one of the cited laws.
use Rattle.apply.proofs.Marking.{Marking}
use Rattle.table.specs.Layout.{rows_of, capacity}
use lib.ListN.{length}
use mathlib.Core.List.{map}
use mathlib.Core.Path.{◌≡◌}
use Rattle.apply.proofs.sweep.insert_markers.Given as goal

abbrev pub invariant-loop-k : goal.invariant-loop-k
invariant-loop-k g l = Marking l.stamp l.next l.used (map g.F.FateCell.fate_in l.fates) (capacity l.initial.keys) (rows_of l.initial.rows l.initial.keys l.left) l.rows l.keys l.j l.i l.k × (length l.rows ≡ length l.initial.rows) × (length l.keys ≡ length l.initial.keys)

abbrev pub decreases-loop-k : goal.decreases-loop-k
decreases-loop-k g l = l.j
