-- Words as bytes: operations on words go byte by byte, and a test of every byte is one of the word.
use Prim.Native.Nat.{ℕ, zero, suc, ◌+◌, ◌*◌, ◌^◌, ◌≤◌, ◌<◌}
use mathlib.Core.Path.{◌≡◌, refl, ap, ◌∙◌}
use mathlib.Core.Bool.{Bool, true, false, ◌&&◌, ◌||◌, not, false≢true}
use mathlib.Core.List.{List, [], ◌∷◌}
use native.Mathlib.Omega.{arith}
use lib.Bits.{bit_and, bit_xor, and_block, xor_block}
use lib.Dec.{eqb, leb}
use lib.ListN.{length, get_or}
use borrow.Author.Tests.{leb-true, ne_eqb}
use Rattle.buffers.specs.Choices.{pick}
use Rattle.buffers.specs.Lists.{all}
use Rattle.buffers.specs.Words.{number, AllBytes}
use Rattle.buffers.proofs.Tests.{and_l, and_r}
use Rattle.calendar.proofs.Tables.{upto_at}

-- ## Operations byte by byte

-- an operation on two lists, element by element
abbrev pub both : (ℕ → ℕ → ℕ) → List ℕ → List ℕ → List ℕ
both f [] ys = []
both f (a ∷ xs) [] = []
both f (a ∷ xs) (b ∷ ys) = f a b ∷ both f xs ys

module _ (f : ℕ → ℕ → ℕ) (empty : f 0 0 ≡ 0) (block : (k a b r s : ℕ) → r < 2 ^ k → s < 2 ^ k → f (a * 2 ^ k + r) (b * 2 ^ k + s) ≡ f a b * 2 ^ k + f r s) where
  by_byte : (xs ys : List ℕ) → AllBytes xs → AllBytes ys → length xs ≡ length ys → f (number xs) (number ys) ≡ number (both f xs ys)
  unfolding number
  by_byte [] [] ha hb e = empty
  by_byte [] (b ∷ ys) ha hb e = absurd (omega arith)
  by_byte (a ∷ xs) [] ha hb e = absurd (omega arith)
  by_byte (a ∷ xs) (b ∷ ys) ha hb e =
      let p : a + 256 * number xs ≡ number xs * 2 ^ 8 + a = omega arith in
      let q : b + 256 * number ys ≡ number ys * 2 ^ 8 + b = omega arith in
      rw (p, q, block 8 (number xs) (number ys) a b (ha 0) (hb 0)) (omega (arith, by_byte xs ys (λ k. ha (suc k)) (λ k. hb (suc k)) (omega arith)))

pub xor_bytes : (xs ys : List ℕ) → AllBytes xs → AllBytes ys → length xs ≡ length ys → bit_xor (number xs) (number ys) ≡ number (both bit_xor xs ys)
xor_bytes = by_byte bit_xor refl xor_block

and_bytes : (xs ys : List ℕ) → AllBytes xs → AllBytes ys → length xs ≡ length ys → bit_and (number xs) (number ys) ≡ number (both bit_and xs ys)
and_bytes = by_byte bit_and refl and_block

pub sum_bytes : (xs ys : List ℕ) → length xs ≡ length ys → number xs + number ys ≡ number (both ◌+◌ xs ys)
unfolding number
sum_bytes [] [] e = refl
sum_bytes [] (b ∷ ys) e = absurd (omega arith)
sum_bytes (a ∷ xs) [] e = absurd (omega arith)
sum_bytes (a ∷ xs) (b ∷ ys) e = omega (arith, sum_bytes xs ys (omega arith))

zero_bytes : (xs : List ℕ) → eqb (number xs) 0 ≡ all (λ a. eqb a 0) xs
unfolding number
zero_bytes [] = refl
zero_bytes (a ∷ xs) = first a (number xs) ∙ ap (λ (b : Bool). eqb a 0 && b) (zero_bytes xs)
  where
    first : (a n : ℕ) → eqb (a + 256 * n) 0 ≡ (eqb a 0 && eqb n 0)
    first zero zero = refl
    first zero (suc n) = rw (ne_eqb (0 + 256 * suc n) 0 (λ q. omega arith), ne_eqb (suc n) 0 (λ q. omega arith))
    first (suc a) n = rw (ne_eqb (suc a + 256 * n) 0 (λ q. omega arith), ne_eqb (suc a) 0 (λ q. omega arith))

-- ## Bytes that are low

-- a byte is at most 15
abbrev pub low : ℕ → Bool
low d = eqb (bit_and d 240) 0

low_most : (d : ℕ) → d < 256 → low d ≡ true → d ≤ 15
low_most d h t = leb-true d 15 (implied (low d) (leb d 15) t (upto_at 256 (λ k. not (low k) || leb k 15) refl d h))
  where
    implied : (a b : Bool) → a ≡ true → (not a || b) ≡ true → b ≡ true
    implied true b t e = e
    implied false b t e = absurd (false≢true t)

-- every byte is at most 15, and with its part of the room
abbrev pub near : List ℕ → List ℕ → Bool
near [] ms = true
near (d ∷ ds) [] = true
near (d ∷ ds) (m ∷ ms) = (low d && low (d + m)) && near ds ms

pub near_both : (ds ms : List ℕ) → length ds ≡ length ms → near ds ms ≡ pick (all low ds) (all low (both ◌+◌ ds ms)) false
near_both [] [] e = refl
near_both [] (m ∷ ms) e = absurd (omega arith)
near_both (d ∷ ds) [] e = absurd (omega arith)
near_both (d ∷ ds) (m ∷ ms) e = rw (near_both ds ms (omega arith)) (joined (low d) (low (d + m)) (all low ds) (all low (both ◌+◌ ds ms)))
  where
    joined : (a b p q : Bool) → ((a && b) && pick p q false) ≡ pick (a && p) (b && q) false
    joined true true true q = refl
    joined true true false q = refl
    joined true false true q = refl
    joined true false false q = refl
    joined false b p q = refl

pub lows : (ds : List ℕ) → AllBytes ds → all low ds ≡ true → (k : ℕ) → get_or ds k 0 ≤ 15
lows [] h t k = omega arith
lows (d ∷ ds) h t zero = low_most d (h 0) (and_l (low d) _ t)
lows (d ∷ ds) h t (suc k) = lows ds (λ i. h (suc i)) (and_r (low d) _ t) k

pub sums_bytes : (ds ms : List ℕ) → ((k : ℕ) → get_or ds k 0 ≤ 15) → ((k : ℕ) → get_or ms k 0 ≤ 15) → AllBytes (both ◌+◌ ds ms)
sums_bytes [] ms h g k = omega arith
sums_bytes (d ∷ ds) [] h g k = omega arith
sums_bytes (d ∷ ds) (m ∷ ms) h g zero = omega (arith, h 0, g 0)
sums_bytes (d ∷ ds) (m ∷ ms) h g (suc k) = sums_bytes ds ms (λ i. h (suc i)) (λ i. g (suc i)) k

-- the upper half of each byte
abbrev masks : List ℕ → List ℕ
masks [] = []
masks (d ∷ ds) = 240 ∷ masks ds

masks_length : (ds : List ℕ) → length ds ≡ length (masks ds)
masks_length [] = refl
masks_length (d ∷ ds) = ap suc (masks_length ds)

masks_bytes : (ds : List ℕ) → AllBytes (masks ds)
masks_bytes [] k = omega arith
masks_bytes (d ∷ ds) zero = omega arith
masks_bytes (d ∷ ds) (suc k) = masks_bytes ds k

pub low_bytes : (ds : List ℕ) → AllBytes ds → eqb (bit_and (number ds) (number (masks ds))) 0 ≡ all low ds
low_bytes ds h = ap (λ (n : ℕ). eqb n 0) (and_bytes ds (masks ds) h (masks_bytes ds) (masks_length ds)) ∙ zero_bytes (both bit_and ds (masks ds)) ∙ each ds
  where
    each : (ds : List ℕ) → all (λ a. eqb a 0) (both bit_and ds (masks ds)) ≡ all low ds
    each [] = refl
    each (d ∷ ds) = ap (λ (b : Bool). low d && b) (each ds)
