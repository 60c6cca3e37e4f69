-- `rows_are_sound` meets its contract.
use Rattle.bucket.specs.Steps.{all_below, numbers_at}
use mathlib.Core.Bool.{true}
use mathlib.Core.Path.{◌≡◌}
use Rattle.bucket.proofs.rows_are_sound.Given as goal

abbrev pub invariant-loop-at : goal.invariant-loop-at
invariant-loop-at l = all_below (numbers_at l.next l.time l.rows) l.at ≡ true
