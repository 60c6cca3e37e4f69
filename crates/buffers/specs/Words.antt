-- Numbers as bytes, little-endian.
use Rattle.std.specs.Prelude.{ℕ, zero, suc, ◌+◌, ◌*◌, ◌/◌, ◌%◌, ◌<◌, List, [], ◌∷◌, get_or}

-- the number that bytes spell, the low byte first
unfoldable pub number : List ℕ → ℕ
number [] = 0
number (b ∷ bs) = b + 256 * number bs

-- the k low bytes of a number, the low byte first
unfoldable pub spelled : ℕ → ℕ → List ℕ
spelled zero n = []
spelled (suc k) n = n % 256 ∷ spelled k (n / 256)

-- every element is a byte
abbrev pub AllBytes : List ℕ → Type 0
AllBytes bs = (k : ℕ) → get_or bs k 0 < 256
