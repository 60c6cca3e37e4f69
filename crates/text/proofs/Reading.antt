-- Whole numbers: what the code learns digit by digit is what all the digits spell, and what is read lies in its range.
use Prim.Native.Nat.{ℕ, ◌+◌, ◌-◌, ◌*◌, ◌≤◌, ◌<◌}
use mathlib.Core.Path.{◌≡◌, refl, sym, ◌∙◌}
use mathlib.Core.Logic.{inl, inr}
use mathlib.Core.Bool.{Bool, true, false}
use mathlib.Core.List.{List, [], ◌∷◌}
use Rattle.std.specs.Prelude.{Option, Some, None, ◌==◌, if◌then◌else◌}
use Rattle.std.proofs.lemmas.Option.{option_and_then_some}
use Rattle.std.proofs.lemmas.Grind.{common_steps}
use native.Mathlib.Omega.{arith}
use lib.Dec.{ltb}
use lib.ListN.{length, get_or, drop, drop_of_length-le}
use borrow.Author.Tests.{lt-leb, le-leb, lt-ltb, le-ltb, ltb-true, ltb-false}
use Rattle.std.specs.Char.{is_ascii_digit}
use Rattle.buffers.specs.Choices.{pick}
use Rattle.buffers.specs.Lists.{all}
use Rattle.buffers.specs.Ranges.{Span}
use Rattle.buffers.proofs.Tests.{either, clash}
use Rattle.text.specs.Numbers.{is_digit, spelt, at_most, digits_of, leading_zero, number_of, positive_of}
use Rattle.text.proofs.Scans.{next}

-- ## One digit more

pub digit_from : (r : Bool) (b : ℕ) → r ≡ is_digit b → r ≡ true → 48 ≤ b
unfolding is_digit
digit_from r b e h =
    elim (either (ltb b 48)) [
      | inl t ↦ let z : r ≡ false = e ∙ rw t in absurd (clash r h z)
      | inr t ↦ ltb-false b 48 t
    ]

-- what `is_ascii_digit` answers
pub ascii_digit : (b : ℕ) → is_ascii_digit b ≡ is_digit b
unfolding is_digit
ascii_digit b =
    elim (either (ltb b 48)) [
      | inl t ↦ rw (t, lt-leb 48 b (ltb-true b 48 t))
      | inr t ↦ rw (t, le-leb 48 b (ltb-false b 48 t))
    ]

-- ## All the digits

-- the number that n and then these digits spell, at most k
abbrev pub rest_of : ℕ → ℕ → List ℕ → Option ℕ
rest_of k n s = pick (all is_digit s) (at_most k (spelt n s)) None

spelt_grows : (n : ℕ) (s : List ℕ) → n ≤ spelt n s
spelt_grows n [] = omega arith
spelt_grows n (b ∷ s) = let h = spelt_grows (n * 10 + (b - 48)) s in omega arith

at_most_some : (k n m : ℕ) → at_most k n ≡ Some m → (n ≡ m) × (m ≤ k)
at_most_some k n m e =
    elim (either (ltb k n)) [
      | inl t ↦ let z : None ≡ Some m = rw t at e in let q : ◌≡◌ {A = ℕ} 0 1 = cc in absurd (omega arith)
      | inr t ↦ let z : Some n ≡ Some m = rw t at e in let q : n ≡ m = cc in let h = ltb-false k n t in (q, omega arith)
    ]

either_none : (t : Bool) → pick {A = Option ℕ} t None None ≡ None
either_none true = refl
either_none false = refl

module _ (k : ℕ) (s : List ℕ) (i n : ℕ) (q : digits_of k s ≡ rest_of k n (drop i s)) where
  pub digits_bad : (r : Bool) → i < length s → r ≡ is_digit (get_or s i 0) → r ≡ false → None ≡ digits_of k s
  digits_bad r h e t = sym (q ∙ rw (next s i h) (simp (sym e ∙ t)))

  pub digits_past : i < length s → k < n * 10 + (get_or s i 0 - 48) → None ≡ digits_of k s
  digits_past h m =
      let g = spelt_grows (n * 10 + (get_or s i 0 - 48)) (drop (i + 1) s) in
      sym (q ∙ rw (next s i h) (simp (lt-ltb k (spelt (n * 10 + (get_or s i 0 - 48)) (drop (i + 1) s)) (omega arith)) (either_none (all is_digit (get_or s i 0 ∷ drop (i + 1) s)))))

  pub digits_step : (r : Bool) → i < length s → r ≡ is_digit (get_or s i 0) → r ≡ true → digits_of k s ≡ rest_of k (n * 10 + (get_or s i 0 - 48)) (drop (i + 1) s)
  digits_step r h e t = q ∙ rw (next s i h) (simp (sym e ∙ t))

  pub digits_over : length s ≤ i → k < n → None ≡ digits_of k s
  digits_over h m = sym (q ∙ rw (drop_of_length-le s h) (simp (lt-ltb k n m)))

  pub digits_end : length s ≤ i → n ≤ k → Some n ≡ digits_of k s
  digits_end h m = sym (q ∙ rw (drop_of_length-le s h) (simp (le-ltb k n m)))

pub ruleset digits_cases = (digit_from, digits_bad, digits_past, digits_step, digits_over, digits_end)

-- ## The range

-- What is read as a number at most k is at most k.
pub number_most : (k : ℕ) (s : List ℕ) (n : ℕ) → number_of k s ≡ Some n → n ≤ k
unfolding number_of
number_most k s n e = go (length s == 0) (leading_zero s) (all is_digit s) e
  where
    go : (a b c : Bool) → (if a then None else (if b then None else pick c (at_most k (spelt 0 s)) None)) ≡ Some n → n ≤ k
    go true b c q = let z : ◌≡◌ {A = ℕ} 0 1 = cc in absurd (omega arith)
    go false true c q = let z : ◌≡◌ {A = ℕ} 0 1 = cc in absurd (omega arith)
    go false false true q = (at_most_some k (spelt 0 s) n q).1
    go false false false q = let z : ◌≡◌ {A = ℕ} 0 1 = cc in absurd (omega arith)

-- What is read as a positive number at most k lies from 1 to k.
pub positive_range : (k : ℕ) (s : List ℕ) (n : ℕ) → positive_of k s ≡ Some n → Span 1 n k
unfolding positive_of
positive_range k s n e = option_and_then_some _ (number_of k s) n e (λ m h q. leaf m h q)
  where
    leaf : (m : ℕ) → number_of k s ≡ Some m → (if m == 0 then None else Some m) ≡ Some n → Span 1 n k
    leaf m h q = let b = number_most k s m h in record { from = grind (arith, common_steps); to = grind (arith, common_steps) }
