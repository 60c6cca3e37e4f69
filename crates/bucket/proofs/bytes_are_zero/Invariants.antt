-- `bytes_are_zero` meets its contract.
use Rattle.bucket.specs.Steps.{zeros}
use lib.Dec.{eqb}
use lib.ListN.{drop}
use mathlib.Core.Bool.{◌&&◌}
use mathlib.Core.Path.{◌≡◌}
use Rattle.bucket.proofs.bytes_are_zero.Given as goal

abbrev pub invariant-loop-i : goal.invariant-loop-i
invariant-loop-i l = zeros (drop l.at l.keys) ≡ eqb l.bits 0 && zeros (drop l.i l.keys)
