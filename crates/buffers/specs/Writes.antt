-- What a buffer holds once something is written into it.
use Rattle.std.specs.Prelude.{ℕ, ◌+◌, ◌≤◌, ◌≡◌, List, ◌++◌, length, take, drop}

-- the list with the elements from `at` on replaced by those of vs
abbrev pub placed : {A : Type 0} → List A → ℕ → List A → List A
placed l at vs = take at l ++ vs ++ drop (at + length vs) l

-- vs was written from `at` on, at most k elements: what the buffer holds then, and the place after the last element written
pub record Wrote {A : Type 0} (out : List A) (at : ℕ) (vs : List A) (k : ℕ) (exit : List A) (r : ℕ) : Type 0 where
  pub next : r ≡ at + length vs
  pub holds : exit ≡ placed out at vs
  pub long : length exit ≡ length out
  pub most : r ≤ at + k
