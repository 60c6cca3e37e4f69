-- `remove_rows` meets its contract: each way through it is one of the cited laws.

use Rattle.apply.proofs.Removing.{Removing}
use Rattle.table.specs.Layout.{rows_of, capacity}
use lib.ListN.{length}
use mathlib.Core.List.{map}
use mathlib.Core.Path.{◌≡◌}
use Rattle.apply.proofs.sweep.remove_rows.Given as goal

abbrev pub invariant-loop-at : goal.invariant-loop-at
invariant-loop-at g l = Removing l.used (map g.F.FateCell.fate_in l.fates) (capacity l.initial.keys) (rows_of l.initial.rows l.initial.keys l.used) l.rows l.keys l.left l.at × (length l.rows ≡ length l.initial.rows) × (length l.keys ≡ length l.initial.keys)
