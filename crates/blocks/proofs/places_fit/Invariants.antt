-- `places_fit` meets its contract.
use Prim.Native.Nat.{◌-◌, ◌≤◌}
use Rattle.blocks.specs.Places.{places_fit}
use lib.ListN.{drop}
use mathlib.Core.Bool.{◌&&◌}
use mathlib.Core.Path.{◌≡◌}
use Rattle.blocks.proofs.places_fit.Given as goal

abbrev pub invariant-loop-i : goal.invariant-loop-i
invariant-loop-i l = (l.i ≤ l.to) × (l.j ≡ l.i) × (places_fit l.n 0 l.b ≡ l.ok && places_fit l.n l.i (drop l.i l.b))

abbrev pub decreases-loop-i : goal.decreases-loop-i
decreases-loop-i l = l.to - l.i
