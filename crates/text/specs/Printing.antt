-- A number in base ten, as it is printed.
use Rattle.std.specs.Prelude.{ℕ, zero, suc, ◌+◌, ◌/◌, ◌%◌, List, [], ◌∷◌, ◌++◌, ltb}
use Rattle.buffers.specs.Choices.{pick}

-- the digits of a number, in at most f steps
abbrev pub digits_up : ℕ → ℕ → List ℕ
digits_up zero n = []
digits_up (suc f) n = pick (ltb n 10) ((48 + n) ∷ []) (digits_up f (n / 10) ++ (48 + n % 10) ∷ [])

-- the digits of a number, the first one first: n + 1 steps are always enough
unfoldable pub digits : ℕ → List ℕ
digits n = digits_up (suc n) n
