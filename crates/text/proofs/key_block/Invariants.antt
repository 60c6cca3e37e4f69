-- `key_block` meets its contract.
use Rattle.text.specs.Keys.{key_bytes}
use lib.ListN.{drop}
use mathlib.Core.Path.{◌≡◌}
use mathlib.Core.Bool.{◌&&◌}
use Rattle.text.proofs.key_block.Given as goal

abbrev pub invariant-loop-b : goal.invariant-loop-b
invariant-loop-b l = key_bytes l.block ≡ l.ok && key_bytes (drop l.b-index l.block)
