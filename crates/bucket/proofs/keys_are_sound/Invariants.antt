-- `keys_are_sound` meets its contract.
use Rattle.bucket.proofs.Following.{Followed}
use Rattle.bucket.proofs.keys_are_sound.Given as goal

abbrev pub invariant-loop-i : goal.invariant-loop-i
invariant-loop-i l = Followed l.rows l.keys l.i
