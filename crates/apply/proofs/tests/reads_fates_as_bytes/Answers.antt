-- The test's table holds its rows, and its sweep can be carried out on it: each by computing.
use mathlib.Core.Path.{refl}
use native.Mathlib.Omega.{arith}
use Rattle.blocks.specs.Blocks.{block_of}
use Rattle.apply.proofs.tests.reads_fates_as_bytes.Goals as goal

pub apply_change-left-requires : goal.apply_change-left-requires
unfolding block_of
apply_change-left-requires g c =
    record {
      held = record { numbers_are = refl; keys_are = refl; room = omega arith; keys_have_room = refl };
      can = (refl, refl, omega arith, omega arith, omega arith, omega arith);
      small = omega arith;
      used_small = omega arith;
    }
