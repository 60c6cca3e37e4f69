-- Digits and whole numbers in a text. What can't be read is `none`.
use Rattle.std.specs.Prelude.{ℕ, ◌+◌, ◌-◌, ◌*◌, Bool, false, List, [], ◌∷◌, leb, ltb, eqb, length, get_or, ◌==◌, if◌then◌else◌}
use Rattle.std.specs.Prelude.{Option, Some, None}
use Rattle.buffers.specs.Choices.{pick, ◌>>=◌}
use Rattle.buffers.specs.Lists.{all}

-- 0 to 9
unfoldable pub is_digit : ℕ → Bool
is_digit b = pick (ltb b 48) false (leb b 57)

-- the number that digits spell in base ten, behind those of n
abbrev pub spelt : ℕ → List ℕ → ℕ
spelt n [] = n
spelt n (b ∷ s) = spelt (n * 10 + (b - 48)) s

-- a number that is at most k
abbrev pub at_most : ℕ → ℕ → Option ℕ
at_most k n = pick (ltb k n) None (Some n)

-- digits only, which spell a number at most k
abbrev pub digits_of : ℕ → List ℕ → Option ℕ
digits_of k s = pick (all is_digit s) (at_most k (spelt 0 s)) None

-- a zero with something behind it
unfoldable pub leading_zero : List ℕ → Bool
leading_zero s = pick (ltb (length s) 2) false (eqb (get_or s 0 0) 48)

-- a whole number at most k: at least one digit, no leading zero
unfoldable pub number_of : ℕ → List ℕ → Option ℕ
number_of k s =
    if length s == 0 then None
    else (if leading_zero s then None else digits_of k s)

-- a whole number from 1 to k
unfoldable pub positive_of : ℕ → List ℕ → Option ℕ
positive_of k s = do
  n ← number_of k s
  if n == 0 then None else Some n
