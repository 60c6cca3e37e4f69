-- Laws of bits: how the code makes them, and what the lowest of them says.
use Prim.Native.Nat.{ℕ, zero, suc, ◌+◌, ◌-◌, ◌*◌, ◌/◌, ◌%◌, ◌^◌, ◌≤◌, ◌<◌}
use mathlib.Core.Path.{◌≡◌, refl, sym, ap, ◌∙◌}
use mathlib.Core.Logic.{inl, inr}
use mathlib.Core.Bool.{Bool, true, false}
use mathlib.Core.List.{List, [], ◌∷◌, ◌++◌}
use native.Mathlib.Omega.{arith}
use native.Mathlib.Nat.{mul_comm, pow-suc, zero-div, div-div-eq-div-mul}
use lib.Lanes.{zip2, mask_l, top}
use Rattle.std.proofs.Common.{map, cond, replicate, take_all, le_refl, w8}
use Rattle.std.proofs.lemmas.Simd.{bitmask_splat}
use lib.Dec.{eqb}
use lib.ListN.{length, get_or, take, drop}
use lib.Bits.{bit_and, and_step, and_self}
use lib.Count.{count_trailing_zeros, trailing_le}
use mir.Syntax.{w64}
use mir.Val.{Fits}
use borrow.Author.Tests.{eqb-true, eqb-false}
use Rattle.buffers.specs.Choices.{pick}
use Rattle.buffers.proofs.Tests.{either}
use Rattle.buffers.proofs.Parts.{part_element, rest_all}
use Rattle.text.specs.Bits.{bits_of}

-- ## Bits of a vector

compared_bits : (b : ℕ) (s : List ℕ) → mask_l (map (λ a. eqb a b) s) ≡ bits_of b s
compared_bits b [] = refl
compared_bits b (a ∷ s) = go (eqb a b) (compared_bits b s)
  where
    go : (t : Bool) → mask_l (map (λ a. eqb a b) s) ≡ bits_of b s → cond t 1 0 + 2 * mask_l (map (λ a. eqb a b) s) ≡ pick t 1 0 + 2 * bits_of b s
    go true e = omega arith
    go false e = omega arith

pub mask_bits : (b : ℕ) (s : List ℕ) → length s ≡ 16 → mask_l (map (top 7) (zip2 (λ x y. cond (eqb x y) 255 0) (take 16 (drop 0 s)) (replicate 16 b))) % 2 ^ 64 ≡ bits_of b s
mask_bits b s l =
    let whole : take 16 s ≡ s = rw (← l) (take_all _ _ (le_refl (length s))) in
    rw whole (bitmask_splat w8 eqb s 16 b l (omega arith) ∙ compared_bits b s)

-- ## Bits without the first

pub bits_drop : (b k : ℕ) (s : List ℕ) → bits_of b s / 2 ^ k ≡ bits_of b (drop k s)
bits_drop b zero s = omega arith
bits_drop b (suc k) [] = zero-div (2 ^ suc k)
bits_drop b (suc k) (a ∷ s) =
    let h : bits_of b (a ∷ s) / 2 ≡ bits_of b s = go (eqb a b) in
    let p : 2 ^ suc k ≡ 2 * 2 ^ k = pow-suc 2 k ∙ mul_comm (2 ^ k) 2 in
    rw (p, ← div-div-eq-div-mul (bits_of b (a ∷ s)) 2 (2 ^ k), h) (bits_drop b k s)
  where
    go : (t : Bool) → (pick t 1 0 + 2 * bits_of b s) / 2 ≡ bits_of b s
    go true = omega arith
    go false = omega arith

-- ## Zeros behind a text

zeros_none : (n k : ℕ) → bits_of 9 (drop n (replicate k 0)) ≡ 0
zeros_none zero zero = refl
zeros_none zero (suc k) = let e = zeros_none 0 k in omega arith
zeros_none (suc n) zero = refl
zeros_none (suc n) (suc k) = zeros_none n k

bits_before : (b : ℕ) (s t : List ℕ) → bits_of b t ≡ 0 → bits_of b (s ++ t) ≡ bits_of b s
bits_before b [] t e = e
bits_before b (a ∷ s) t e = ap (λ (n : ℕ). pick (eqb a b) 1 0 + 2 * n) (bits_before b s t e)

-- The bits of a text that is copied into 16 zeros.
pub bits_padded : (s t : List ℕ) (n r : ℕ) → t ≡ s → r ≡ bits_of 9 (t ++ drop n (replicate 16 0)) → r ≡ bits_of 9 (take (length s - 0) s)
bits_padded s t n r c e = e ∙ ap (λ (x : List ℕ). bits_of 9 (x ++ drop n (replicate 16 0))) c ∙ bits_before 9 s _ (zeros_none n 16) ∙ ap (bits_of 9) (sym (rest_all 0 s))

-- ## The lowest bit

-- the bits of a text but for its first j bytes, whose bits are cleared
abbrev pub bits_from : ℕ → ℕ → List ℕ → ℕ
bits_from b zero s = bits_of b s
bits_from b (suc j) [] = 0
bits_from b (suc j) (a ∷ s) = 2 * bits_from b j s

-- t is the first place of the byte from j on
pub record First (b j : ℕ) (s : List ℕ) (t : ℕ) : Type 0 where
  pub from : j ≤ t
  pub within : t < length s
  pub hit : get_or s t 0 ≡ b
  pub none : (i : ℕ) → j ≤ i → i < t → get_or s i 0 ≡ b → ⊥

zeros_even : (k n : ℕ) → count_trailing_zeros (suc k) (2 * n) ≡ suc (count_trailing_zeros k n)
unfolding count_trailing_zeros
zeros_even k n =
    let e : 2 * n % 2 ≡ 0 = omega arith in
    let d : 2 * n / 2 ≡ n = omega arith in
    rw (e, d)

zeros_odd : (k n : ℕ) → count_trailing_zeros (suc k) (1 + 2 * n) ≡ 0
unfolding count_trailing_zeros
zeros_odd k n = let e : (1 + 2 * n) % 2 ≡ 1 = omega arith in rw e

clear_even : (n : ℕ) → (n ≡ 0 → ⊥) → bit_and (2 * n) (2 * n - 1) ≡ 2 * bit_and n (n - 1)
clear_even n h =
    let e : 2 * n % 2 ≡ 0 = omega arith in
    let d : 2 * n / 2 ≡ n = omega arith in
    let f : (2 * n - 1) / 2 ≡ n - 1 = omega arith in
    and_step (2 * n) (2 * n - 1) ∙ rw (e, d, f) (omega arith)

clear_odd : (n : ℕ) → bit_and (1 + 2 * n) (1 + 2 * n - 1) ≡ 2 * n
clear_odd n =
    let e : (1 + 2 * n - 1) % 2 ≡ 0 = omega arith in
    let d : (1 + 2 * n) / 2 ≡ n = omega arith in
    let f : (1 + 2 * n - 1) / 2 ≡ n = omega arith in
    let g : (1 + 2 * n) % 2 ≡ 1 = omega arith in
    and_step (1 + 2 * n) (1 + 2 * n - 1) ∙ rw (d, e, f, g, and_self n) (omega arith)

module _ (b a : ℕ) (s : List ℕ) where
  bits_hit : eqb a b ≡ true → bits_of b (a ∷ s) ≡ 1 + 2 * bits_of b s
  bits_hit t = rw t

  bits_miss : eqb a b ≡ false → bits_of b (a ∷ s) ≡ 2 * bits_of b s
  bits_miss t = rw t (omega arith)

  first_on : (j t : ℕ) → First b j s t → First b (suc j) (a ∷ s) (suc t)
  first_on j t f =
      let p = f.from in
      let q = f.within in
      record { from = omega arith; within = omega arith; hit = f.hit; none = go }
    where
      go : (i : ℕ) → suc j ≤ i → i < suc t → get_or (a ∷ s) i 0 ≡ b → ⊥
      go zero g h = absurd (omega arith)
      go (suc i) g h = f.none i (omega arith) (omega arith)

  first_past : (t : ℕ) → (a ≡ b → ⊥) → First b 0 s t → First b 0 (a ∷ s) (suc t)
  first_past t n f =
      let q = f.within in
      record { from = omega arith; within = omega arith; hit = f.hit; none = go }
    where
      go : (i : ℕ) → 0 ≤ i → i < suc t → get_or (a ∷ s) i 0 ≡ b → ⊥
      go zero g h = n
      go (suc i) g h = f.none i (omega arith) (omega arith)

pub lowest : (b k j : ℕ) (s : List ℕ) → length s ≤ k → (bits_from b j s ≡ 0 → ⊥) → First b j s (count_trailing_zeros k (bits_from b j s))
lowest b k zero [] l h = absurd (h refl)
lowest b k (suc j) [] l h = absurd (h refl)
lowest b zero zero (a ∷ s) l h = absurd (omega arith)
lowest b zero (suc j) (a ∷ s) l h = absurd (omega arith)
lowest b (suc k) (suc j) (a ∷ s) l h = rw (zeros_even k (bits_from b j s)) (first_on b a s j _ (lowest b k j s (omega arith) (λ e. h (omega arith))))
lowest b (suc k) zero (a ∷ s) l h =
    elim (either (eqb a b)) [
      | inl t ↦ rw (bits_hit b a s t, zeros_odd k (bits_of b s)) (record { from = omega arith; within = omega arith; hit = eqb-true a b t; none = λ i g q. absurd (omega arith) })
      | inr t ↦
          let e = bits_miss b a s t in
          rw (e, zeros_even k (bits_of b s)) (first_past b a s _ (eqb-false a b t) (lowest b k 0 s (omega arith) (λ n. h (omega arith))))
    ]

pub cleared : (b k j : ℕ) (s : List ℕ) → length s ≤ k → (bits_from b j s ≡ 0 → ⊥) → bit_and (bits_from b j s) (bits_from b j s - 1) ≡ bits_from b (suc (count_trailing_zeros k (bits_from b j s))) s
cleared b k zero [] l h = absurd (h refl)
cleared b k (suc j) [] l h = absurd (h refl)
cleared b zero zero (a ∷ s) l h = absurd (omega arith)
cleared b zero (suc j) (a ∷ s) l h = absurd (omega arith)
cleared b (suc k) (suc j) (a ∷ s) l h =
    let n : bits_from b j s ≡ 0 → ⊥ = λ e. h (omega arith) in
    rw (zeros_even k (bits_from b j s), clear_even (bits_from b j s) n) (ap (λ (m : ℕ). 2 * m) (cleared b k j s (omega arith) n))
cleared b (suc k) zero (a ∷ s) l h =
    elim (either (eqb a b)) [
      | inl t ↦ rw (bits_hit b a s t, zeros_odd k (bits_of b s)) (clear_odd (bits_of b s))
      | inr t ↦
          let e = bits_miss b a s t in
          let n : bits_of b s ≡ 0 → ⊥ = λ q. h (omega arith) in
          rw (e, zeros_even k (bits_of b s), clear_even (bits_of b s) n) (ap (λ (m : ℕ). 2 * m) (cleared b k 0 s (omega arith) n))
    ]

pub none_left : (b j : ℕ) (s : List ℕ) → bits_from b j s ≡ 0 → (i : ℕ) → j ≤ i → i < length s → get_or s i 0 ≡ b → ⊥
none_left b zero [] e i g h = absurd (omega arith)
none_left b (suc j) [] e i g h = absurd (omega arith)
none_left b (suc j) (a ∷ s) e zero g h = absurd (omega arith)
none_left b (suc j) (a ∷ s) e (suc i) g h = none_left b j s (omega arith) i (omega arith) (omega arith)
none_left b zero (a ∷ s) e zero g h =
    elim (either (eqb a b)) [
      | inl t ↦ let d = bits_hit b a s t in absurd (omega arith)
      | inr t ↦ eqb-false a b t
    ]
none_left b zero (a ∷ s) e (suc i) g h = none_left b 0 s (omega arith) i (omega arith) (omega arith)

-- ## A part of a text

-- What doesn't stand in a part doesn't stand there in the text.
pub absent : (b : ℕ) (s : List ℕ) (start n lo hi : ℕ) → hi ≤ n → ((i : ℕ) → lo ≤ i → i < hi → get_or (take n (drop start s)) i 0 ≡ b → ⊥)
    → (x : ℕ) → start + lo ≤ x → x < start + hi → get_or s x 0 ≡ b → ⊥
absent b s start n lo hi l f x g h e =
    let d : start + (x - start) ≡ x = omega arith in
    let q = part_element s start (x - start) n (omega arith) in
    f (x - start) (omega arith) (omega arith) (sym (rw d at q) ∙ e)

-- ## Numbers that fit

pub zeros_fit : (n : ℕ) → Fits w64 (count_trailing_zeros 64 n)
zeros_fit n = let l = trailing_le 64 n in record { fits = omega arith }
