-- Two blocks in order: eight bytes at once behind the first, and the last eight from where they fit.
use Prim.Native.Nat.{ℕ, ◌+◌, ◌≤◌, ◌<◌}
use mathlib.Core.Path.{◌≡◌, sym, ap, ◌∙◌}
use mathlib.Core.Logic.{inl, inr}
use mathlib.Core.Bool.{Bool, true, false, not}
use mathlib.Core.List.{List}
use native.Mathlib.Omega.{arith}
use mir.Val.{Fits}
use mir.Syntax.{w8}
use lib.Dec.{eqb}
use lib.ListN.{length, get_or, take, drop, length-drop}
use lib.Seq.{take_all, take-take, drop-drop}
use borrow.Author.Tests.{eqb-true, eqb-false}
use Rattle.buffers.specs.Lists.{same}
use Rattle.buffers.specs.Words.{AllBytes}
use Rattle.buffers.proofs.Words.{bytes_drop}
use Rattle.buffers.proofs.Tests.{either, clash, and_i}
use Rattle.buffers.proofs.Lists.{same_path, same_refl}
use Rattle.model.specs.Rows.{before}
use Rattle.model.proofs.Order.{before_irrefl}
use Rattle.search.specs.Keys.{rank}
use Rattle.std.specs.declared.cmp.Ordering.{Ordering}
use Rattle.std.specs.declared.cmp.Ordering.TheVariants.{Less, Equal, Greater}
use Rattle.search.proofs.Comparing.{all_bytes, eight_less, eight_more, eight_same, after_one}
use Rattle.bucket.specs.Ordering.{is_order_to, is_block_order}

-- ## Eight bytes at once

-- The bytes from i behind the first on.
behind : (i : ℕ) (l : List ℕ) → drop (i + 1) l ≡ drop i (drop 1 l)
behind i l = let e : i + 1 ≡ 1 + i = omega arith in ap (λ (k : ℕ). drop k l) e ∙ sym (drop-drop i 1 l)

fits_behind : (l : List ℕ) → ((j : ℕ) → Fits w8 (get_or l j 0)) → AllBytes (drop 1 l)
fits_behind l p = bytes_drop 1 l (all_bytes l p)

module _ (a b : List ℕ) (i to x y : ℕ) (e : take i (drop 1 a) ≡ take i (drop 1 b)) (h : i < to) (m : to ≤ 56) (la : length a ≡ 64) (lb : length b ≡ 64)
    (ex : x ≡ rank 8 (drop (i + 1) a)) (ey : y ≡ rank 8 (drop (i + 1) b)) (p : (j : ℕ) → Fits w8 (get_or a j 0)) (q : (j : ℕ) → Fits w8 (get_or b j 0)) where
  left : i + 8 ≤ length (drop 1 a)
  left = rw length-drop (omega arith)

  right : i + 8 ≤ length (drop 1 b)
  right = rw length-drop (omega arith)

  pub eight_before : x < y → is_order_to to Less (drop 1 a) (drop 1 b) ≡ true
  eight_before d = eight_less (drop 1 a) (drop 1 b) i x y (fits_behind a p) (fits_behind b q) left right e (ex ∙ ap (rank 8) (behind i a)) (ey ∙ ap (rank 8) (behind i b)) d

  pub eight_after : y < x → is_order_to to Greater (drop 1 a) (drop 1 b) ≡ true
  eight_after d = eight_more (drop 1 a) (drop 1 b) i x y (fits_behind a p) (fits_behind b q) left right e (ex ∙ ap (rank 8) (behind i a)) (ey ∙ ap (rank 8) (behind i b)) d

  pub eight_shared : y ≤ x → x ≤ y → take (i + 8) (drop 1 a) ≡ take (i + 8) (drop 1 b)
  eight_shared d f = eight_same (drop 1 a) (drop 1 b) i x y (fits_behind a p) (fits_behind b q) left right e (ex ∙ ap (rank 8) (behind i a)) (ey ∙ ap (rank 8) (behind i b)) d f

module _ (s t : List ℕ) (n : ℕ) where
  fewer_shared : (i : ℕ) → n ≤ i → take i s ≡ take i t → take n s ≡ take n t
  fewer_shared i h e = sym (take-take n i s h) ∙ ap (take n) e ∙ take-take n i t h

  pub shared_end : (i : ℕ) → take i s ≡ take i t → n ≤ i → is_order_to n Equal s t ≡ true
  shared_end i e h = rw (fewer_shared i h e) (same_refl (take n t))

  pub shared_so : (o : Ordering) → is_order_to n o s t ≡ true → o ≡ Equal → take n s ≡ take n t
  shared_so o e q = same_path (take n s) (take n t) (rw q at e)

-- ## Two blocks

module _ (a b : List ℕ) where
  pub apart_before : before (drop 1 a) (drop 1 b) ≡ true → same a b ≡ false
  apart_before e =
      elim (either (same a b)) [
        | inl s ↦ absurd (clash (before (drop 1 b) (drop 1 b)) (rw (same_path a b s) at e) (before_irrefl (drop 1 b)))
        | inr s ↦ s
      ]

  is_after : before (drop 1 a) (drop 1 b) ≡ false → same a b ≡ false → is_block_order Greater a b ≡ true
  is_after e s = and_i (not (before (drop 1 a) (drop 1 b))) _ (rw e) (rw s)

  module _ (n : ℕ) (o : Ordering) (e : is_order_to n o (drop 1 a) (drop 1 b) ≡ true) where
    pub blocks_before : o ≡ Less → is_block_order Less a b ≡ true
    blocks_before q = rw q at e

    pub blocks_after : o ≡ Greater → is_block_order Greater a b ≡ true
    blocks_after q =
        let d : before (drop 1 b) (drop 1 a) ≡ true = rw q at e in
        is_after (after_one (drop 1 a) (drop 1 b) d)
        (elim (either (same a b)) [
          | inl s ↦ absurd (clash (before (drop 1 b) (drop 1 b)) (rw (same_path a b s) at d) (before_irrefl (drop 1 b)))
          | inr s ↦ s
        ])

  pub blocks_same : (r : Bool) → r ≡ same a b → r ≡ true → is_block_order Equal a b ≡ true
  blocks_same r e t = sym e ∙ t

  pub not_same : (r : Bool) → r ≡ same a b → r ≡ false → same a b ≡ false
  not_same r e t = sym e ∙ t

  module _ (x y : ℕ) (e : take 56 (drop 1 a) ≡ take 56 (drop 1 b)) (la : length a ≡ 64) (lb : length b ≡ 64)
      (ex : x ≡ rank 8 (drop 56 a)) (ey : y ≡ rank 8 (drop 56 b)) (p : (j : ℕ) → Fits w8 (get_or a j 0)) (q : (j : ℕ) → Fits w8 (get_or b j 0)) where
    some_shared : take 55 (drop 1 a) ≡ take 55 (drop 1 b)
    some_shared = fewer_shared (drop 1 a) (drop 1 b) 55 56 (omega arith) e

    pub last_before : x < y → is_block_order Less a b ≡ true
    last_before d = eight_before a b 55 56 x y some_shared (omega arith) (omega arith) la lb ex ey p q d

    whole_tail : (l : List ℕ) → length l ≡ 64 → take 63 (drop 1 l) ≡ drop 1 l
    whole_tail l h = take_all 63 (drop 1 l) (rw length-drop (omega arith))

    pub last_after : y ≤ x → same a b ≡ false → is_block_order Greater a b ≡ true
    last_after d s =
        is_after
        (elim (either (eqb x y)) [
          | inl t ↦
              let f : take 63 (drop 1 a) ≡ take 63 (drop 1 b) = eight_shared a b 55 56 x y some_shared (omega arith) (omega arith) la lb ex ey p q (omega arith) (omega (arith, eqb-true x y t)) in
              let g : drop 1 a ≡ drop 1 b = sym (whole_tail a la) ∙ f ∙ whole_tail b lb in
              rw g (before_irrefl (drop 1 b))
          | inr t ↦ after_one (drop 1 a) (drop 1 b) (eight_after a b 55 56 x y some_shared (omega arith) (omega arith) la lb ex ey p q (omega (arith, eqb-false x y t)))
        ])
        s

pub ruleset eight_cases = (eight_before, eight_after, eight_shared, shared_end)

pub ruleset block_cases = (shared_so, blocks_before, blocks_after, blocks_same, last_before, last_after)
