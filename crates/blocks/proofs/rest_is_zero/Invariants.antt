-- `rest_is_zero` meets its contract.
use Rattle.blocks.specs.Places.{is_zero}
use Rattle.buffers.specs.Lists.{all}
use lib.ListN.{drop}
use mathlib.Core.Bool.{◌&&◌}
use mathlib.Core.Path.{◌≡◌}
use Rattle.blocks.proofs.rest_is_zero.Given as goal

abbrev pub invariant-loop-i : goal.invariant-loop-i
invariant-loop-i l = all is_zero (drop 32 l.b) ≡ l.ok && all is_zero (drop l.i l.b)
