-- Three pairs of digits with a separator between them, as `12:34:56`: eight bytes at once.
use Rattle.std.specs.Prelude.{ℕ, ◌+◌, ◌*◌, ◌/◌, Bool, false, List, eqb, take, drop}
use Rattle.std.specs.Int.Bits.{bit_and, bit_xor}
use Rattle.buffers.specs.Choices.{pick}
use Rattle.buffers.specs.Words.{number}

-- how eight bytes of a text from a place on differ, bit by bit, from those of a pattern
unfoldable pub apart : List ℕ → ℕ → ℕ → ℕ
apart s at p = bit_xor (number (take 8 (drop at s))) p

-- the bytes of x, by which a text differs from `00:00:00`: none is above 15, none of a digit above 9, none of a separator above 0
unfoldable pub is_pairs : ℕ → Bool
is_pairs x = pick (eqb (bit_and x 0xf0f0f0f0f0f0f0f0) 0) (eqb (bit_and (x + 0x06060f06060f0606) 0xf0f0f0f0f0f0f0f0) 0) false

-- in each byte ten times that byte of x and once the next
unfoldable pub pairs_of : ℕ → ℕ
pairs_of x = x * 10 + x / 256
