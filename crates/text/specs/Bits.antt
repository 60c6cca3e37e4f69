-- A byte's places in a text as the bits of a number, the first place lowest.
use Rattle.std.specs.Prelude.{ℕ, ◌+◌, ◌*◌, List, [], ◌∷◌, eqb}
use Rattle.buffers.specs.Choices.{pick}

-- one bit for each byte, set where the byte is b
abbrev pub bits_of : ℕ → List ℕ → ℕ
bits_of b [] = 0
bits_of b (a ∷ s) = pick (eqb a b) 1 0 + 2 * bits_of b s
