-- A prefix and a key by the ranks of their first bytes: the keys that a prefix begins lie between two ranks.
use Prim.Native.Nat.{ℕ, zero, suc, ◌+◌, ◌-◌, ◌*◌, ◌^◌, ◌≤◌, ◌<◌}
use mathlib.Core.Path.{◌≡◌, refl, ap}
use mathlib.Core.Logic.{inl, inr}
use mathlib.Core.Bool.{true, false≢true}
use mathlib.Core.List.{List, [], ◌∷◌}
use native.Mathlib.Omega.{arith}
use native.Mathlib.Nat.{mul-le-mul_right, suc-mul, pow-succ'}
use lib.Dec.{eqb, ltb}
use lib.ListN.{length, get_or, take, drop}
use borrow.Author.Tests.{eqb-true, eq-eqb, ltb-true, ltb-false}
use Rattle.buffers.specs.Lists.{begins}
use Rattle.buffers.specs.Words.{AllBytes}
use Rattle.buffers.proofs.Tests.{either}
use Rattle.search.specs.Keys.{rank}
use Rattle.search.proofs.Comparing.{rank_bound, rank_same, greater}

none_rank : (w : ℕ) → rank w [] ≡ 0
unfolding rank
none_rank zero = refl
none_rank (suc w) = refl

-- Behind a prefix's own rank there is room for all that its missing bytes spell.
pub prefix_room : (w : ℕ) (p : List ℕ) → AllBytes p → rank w p + 256 ^ (w - length p) ≤ 256 ^ w
unfolding rank
prefix_room w [] h = let z : w - 0 ≡ w = omega arith in rw z (omega (arith, none_rank w))
prefix_room zero (x ∷ p) h = let z : 0 - suc (length p) ≡ 0 = omega arith in rw z (omega arith)
prefix_room (suc w) (x ∷ p) h =
    let z : suc w - suc (length p) ≡ w - length p = omega arith in
    let m : suc x * 256 ^ w ≤ 256 * 256 ^ w = mul-le-mul_right (256 ^ w) (h 0) in
    rw z (omega (arith, suc-mul x (256 ^ w), prefix_room w p (λ j. h (suc j)), pow-succ' 256 w))

-- A key's rank is no lower than that of a prefix that begins it.
pub begins_low : (w : ℕ) (p k : List ℕ) → begins p k ≡ true → rank w p ≤ rank w k
unfolding rank
begins_low w [] k e = omega (arith, none_rank w)
begins_low w (x ∷ p) [] e = absurd (false≢true e)
begins_low zero (x ∷ p) (y ∷ k) e = omega arith
begins_low (suc w) (x ∷ p) (y ∷ k) e =
    elim (either (eqb x y)) [
      | inl t ↦
          let m : x * 256 ^ w ≡ y * 256 ^ w = ap (λ (z : ℕ). z * 256 ^ w) (eqb-true x y t) in
          omega (arith, m, begins_low w p k (rw t at e))
      | inr t ↦ absurd (false≢true (rw t at e))
    ]

-- Nor is it higher than what the missing bytes can spell behind it.
pub begins_high : (w : ℕ) (p k : List ℕ) → AllBytes k → begins p k ≡ true → rank w k < rank w p + 256 ^ (w - length p)
unfolding rank
begins_high w [] k h e = let z : w - 0 ≡ w = omega arith in rw z (omega (arith, none_rank w, rank_bound w k h))
begins_high w (x ∷ p) [] h e = absurd (false≢true e)
begins_high zero (x ∷ p) (y ∷ k) h e = let z : 0 - suc (length p) ≡ 0 = omega arith in rw z (omega arith)
begins_high (suc w) (x ∷ p) (y ∷ k) h e =
    elim (either (eqb x y)) [
      | inl t ↦
          let z : suc w - suc (length p) ≡ w - length p = omega arith in
          let m : x * 256 ^ w ≡ y * 256 ^ w = ap (λ (v : ℕ). v * 256 ^ w) (eqb-true x y t) in
          rw z (omega (arith, m, begins_high w p k (λ j. h (suc j)) (rw t at e)))
      | inr t ↦ absurd (false≢true (rw t at e))
    ]

-- Between the two a short prefix begins each key that is long enough.
pub within_begins : (w : ℕ) (p k : List ℕ) → AllBytes p → AllBytes k → length p ≤ w → length p ≤ length k → rank w p ≤ rank w k → rank w k < rank w p + 256 ^ (w - length p) → begins p k ≡ true
unfolding rank
within_begins w [] k p_bytes k_bytes l m low high = refl
within_begins w (x ∷ p) [] p_bytes k_bytes l m low high = absurd (omega arith)
within_begins zero (x ∷ p) (y ∷ k) p_bytes k_bytes l m low high = absurd (omega arith)
within_begins (suc w) (x ∷ p) (y ∷ k) p_bytes k_bytes l m low high =
    let z : suc w - suc (length p) ≡ w - length p = omega arith in
    let top : y * 256 ^ w + rank w k < x * 256 ^ w + rank w p + 256 ^ (w - length p) = rw z at high in
    let room = prefix_room w p (λ j. p_bytes (suc j)) in
    elim (either (ltb y x)) [
      | inl t ↦ absurd (omega (arith, greater y x (rank w k) (rank w p) (256 ^ w) (rank_bound w k (λ j. k_bytes (suc j))) (ltb-true y x t)))
      | inr t ↦ elim (either (ltb x y)) [
        | inl u ↦
            let v : suc x * 256 ^ w ≤ y * 256 ^ w = mul-le-mul_right (256 ^ w) (ltb-true x y u) in
            absurd (omega (arith, v, suc-mul x (256 ^ w), top, room))
        | inr u ↦
            let q : x ≡ y = omega (arith, ltb-false y x t, ltb-false x y u) in
            let v : x * 256 ^ w ≡ y * 256 ^ w = ap (λ (a : ℕ). a * 256 ^ w) q in
            rw (eq-eqb x y q) (within_begins w p k (λ j. p_bytes (suc j)) (λ j. k_bytes (suc j)) (omega arith) (omega arith) (omega (arith, v, low)) (omega (arith, v, top)))
      ]
    ]

-- A longer prefix and a key between its bounds have the same first bytes.
pub within_alike : (w : ℕ) (p k : List ℕ) → AllBytes p → AllBytes k → w ≤ length p → w ≤ length k → rank w p ≤ rank w k → rank w k < rank w p + 256 ^ (w - length p) → take w p ≡ take w k
within_alike w p k p_bytes k_bytes l m low high =
    let z : w - length p ≡ 0 = omega arith in
    let top : rank w k < rank w p + 256 ^ 0 = rw z at high in
    rank_same w p k p_bytes k_bytes l m (omega (arith, low, top))

-- Behind the same first bytes the rest decides.
pub begins_rest : (n : ℕ) (p k : List ℕ) → n ≤ length p → n ≤ length k → take n p ≡ take n k → begins p k ≡ begins (drop n p) (drop n k)
begins_rest zero p k l m e = refl
begins_rest (suc n) [] k l m e = absurd (omega arith)
begins_rest (suc n) (x ∷ p) [] l m e = absurd (omega arith)
begins_rest (suc n) (x ∷ p) (y ∷ k) l m e =
    let q : x ≡ y = ap (λ (t : List ℕ). get_or t 0 0) e in
    rw (eq-eqb x y q) (begins_rest n p k (omega arith) (omega arith) (ap (drop 1) e))

-- A prefix begins a key if it begins as much of it as the prefix is long.
pub begins_cut : (p k : List ℕ) (n : ℕ) → length p ≤ n → begins p (take n k) ≡ begins p k
begins_cut [] k n h = refl
begins_cut (x ∷ p) k zero h = absurd (omega arith)
begins_cut (x ∷ p) [] (suc n) h = refl
begins_cut (x ∷ p) (y ∷ k) (suc n) h =
    elim (either (eqb x y)) [
      | inl t ↦ rw t (begins_cut p k n (omega arith))
      | inr t ↦ rw t
    ]
