-- `is_same` meets its contract.
use Rattle.buffers.specs.Lists.{same}
use lib.ListN.{drop}
use mathlib.Core.Bool.{◌&&◌}
use mathlib.Core.Path.{◌≡◌}
use Rattle.bucket.proofs.is_same.Given as goal

abbrev pub invariant-loop-i : goal.invariant-loop-i
invariant-loop-i l = same l.a l.b ≡ l.ok && same (drop l.i l.a) (drop l.i l.b)
