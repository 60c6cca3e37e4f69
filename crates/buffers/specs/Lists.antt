-- Lists by a test, and lists of bytes.
use Rattle.std.specs.Prelude.{ℕ, ◌+◌, Bool, true, false, List, [], ◌∷◌, eqb}
use Rattle.buffers.specs.Choices.{pick}
-- the elements that pass a test, the first of them, whether all pass or some
pub use Rattle.std.specs.List.{filter as keep, find as first, list_all as all, list_any as any}

-- the sum of a number of each element
abbrev pub total : {A : Type 0} → (A → ℕ) → List A → ℕ
total of [] = 0
total of (x ∷ xs) = of x + total of xs

-- each element that passes a test, changed
abbrev pub change : {A : Type 0} → (A → Bool) → (A → A) → List A → List A
change p f [] = []
change p f (x ∷ xs) = pick (p x) (f x) x ∷ change p f xs

-- the two are the same, byte for byte
abbrev pub same : List ℕ → List ℕ → Bool
same [] [] = true
same [] (b ∷ t) = false
same (a ∷ s) [] = false
same (a ∷ s) (b ∷ t) = pick (eqb a b) (same s t) false

-- the first begins the second
abbrev pub begins : List ℕ → List ℕ → Bool
begins [] t = true
begins (a ∷ s) [] = false
begins (a ∷ s) (b ∷ t) = pick (eqb a b) (begins s t) false
