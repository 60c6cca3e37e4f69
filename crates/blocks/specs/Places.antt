-- The 64 bytes of a key one by one, as the code tests them.
use Rattle.std.specs.Prelude.{ℕ, ◌+◌, Bool, true, ◌&&◌, ◌||◌, List, [], ◌∷◌, leb, ltb, eqb}
use Rattle.std.specs.Bool.{beq}

-- byte j behind a first byte n: zero after place n and nowhere else, or a byte of a key
abbrev pub place_fits : ℕ → ℕ → ℕ → Bool
place_fits n j x = eqb j 0 || (beq (ltb n j) (eqb x 0) && (eqb x 0 || (leb 33 x && leb x 126)))

-- the bytes from place j on
abbrev pub places_fit : ℕ → ℕ → List ℕ → Bool
places_fit n j [] = true
places_fit n j (x ∷ l) = place_fits n j x && places_fit n (j + 1) l

abbrev pub is_zero : ℕ → Bool
is_zero x = eqb x 0
