-- Keys compared: byte by byte, and eight bytes at once.
use Prim.Native.Nat.{ℕ, zero, suc, ◌+◌, ◌-◌, ◌*◌, ◌^◌, ◌≤◌, ◌<◌, min}
use mathlib.Core.Path.{◌≡◌, refl, sym, ap, ap₂, ◌∙◌}
use mathlib.Core.Logic.{inl, inr}
use mathlib.Core.Bool.{true, false}
use mathlib.Core.List.{List, [], ◌∷◌, ◌++◌}
use native.Mathlib.Omega.{arith}
use mir.Val.{Fits}
use mir.Syntax.{w8}
use native.Mathlib.Nat.{mul-le-mul_right, suc-mul, pow-succ'}
use lib.Dec.{eqb, ltb}
use lib.ListN.{length, get_or, take, drop, length-drop, drop_of_length-le}
use lib.Seq.{take-add, take-take}
use borrow.Author.Tests.{eq-eqb, eqb-true, eqb-false, lt-ltb, le-ltb, ltb-true, ltb-false}
use Rattle.std.specs.Int.{w64, from_be_bytes}
use Rattle.buffers.proofs.Parts.{part_element, part_first}
use Rattle.buffers.specs.Words.{AllBytes}
use Rattle.buffers.specs.Lists.{same}
use Rattle.buffers.proofs.Tests.{either, clash, or_l, or_r, and_i}
use Rattle.buffers.proofs.Lists.{same_path, same_sym}
use Rattle.buffers.proofs.Words.{bytes_drop}
use Rattle.text.proofs.Scans.{next}
use Rattle.model.specs.Rows.{before}
use Rattle.model.proofs.Order.{before_trans, before_irrefl, before_other}
use Rattle.std.specs.declared.cmp.Ordering.{Ordering}
use Rattle.std.specs.declared.cmp.Ordering.TheVariants.{Less, Equal, Greater}
use Rattle.std.specs.Ordering.{nat_cmp, ordering_then, MatchOrdering}
use Rattle.std.proofs.lemmas.Cmp.{ranked}
use Rattle.std.specs.Cmp.Lexicographic.{slice_cmp}
use Rattle.search.specs.Keys.{is_order, rank, SharesHead}

-- two keys stand as two others do
pub record Alike (a b s t : List ℕ) : Type 0 where
  pub alike : (o : Ordering) → is_order o a b ≡ is_order o s t

-- ## Byte by byte

same_head : (o : Ordering) (x y : ℕ) (s t : List ℕ) → x ≡ y → is_order o (x ∷ s) (y ∷ t) ≡ is_order o s t
same_head Less x y s t e = simp (le-ltb x y (omega arith), eq-eqb x y e)
same_head Equal x y s t e = rw (eq-eqb x y e)
same_head Greater x y s t e = simp (le-ltb y x (omega arith), eq-eqb y x (sym e))

pub alike_start : (a b : List ℕ) → Alike a b a b
alike_start a b = record { alike = λ o. refl }

-- What slices answer is an order of keys.
slice_order : (a b : List ℕ) → is_order (slice_cmp nat_cmp a b) a b ≡ true
slice_order [] [] = refl
slice_order [] (y ∷ b) = refl
slice_order (x ∷ a) [] = refl
slice_order (x ∷ a) (y ∷ b) =
    elim (either (ltb x y)) [
      | inl t ↦ rw (t, t)
      | inr t ↦ elim (either (eqb x y)) [
        | inl u ↦ rw (t, u) (same_head (slice_cmp nat_cmp a b) x y a b (eqb-true x y u) ∙ slice_order a b)
        | inr u ↦ rw (t, u, lt-ltb y x (omega (arith, ltb-false x y t, eqb-false x y u)))
      ]
    ]

-- ## Eight bytes at once

next_rank : (b : List ℕ) (i j k : ℕ) → j ≡ i + 1 → i < length b → rank (suc k) (drop i b) ≡ get_or b i 0 * 256 ^ k + rank k (drop j b)
unfolding rank
next_rank b i j k e h = rw (e, next b i h)

no_rank : (b : List ℕ) → rank 0 b ≡ 0
unfolding rank
no_rank b = refl

pub rank_word : (b bs : List ℕ) (i : ℕ) → i + 8 ≤ length b → bs ≡ take 8 (drop i b) → from_be_bytes w64 bs ≡ rank 8 (drop i b)
rank_word b bs i h e =
    let e0 = next_rank b i (i + 1) 7 refl (omega arith) in
    let e1 = next_rank b (i + 1) (i + 2) 6 (omega arith) (omega arith) in
    let e2 = next_rank b (i + 2) (i + 3) 5 (omega arith) (omega arith) in
    let e3 = next_rank b (i + 3) (i + 4) 4 (omega arith) (omega arith) in
    let e4 = next_rank b (i + 4) (i + 5) 3 (omega arith) (omega arith) in
    let e5 = next_rank b (i + 5) (i + 6) 2 (omega arith) (omega arith) in
    let e6 = next_rank b (i + 6) (i + 7) 1 (omega arith) (omega arith) in
    let e7 = next_rank b (i + 7) (i + 8) 0 (omega arith) (omega arith) in
    let e8 = no_rank (drop (i + 8) b) in
    let p0 = part_first b i 8 (omega arith) in
    let p1 = part_element b i 1 8 (omega arith) in
    let p2 = part_element b i 2 8 (omega arith) in
    let p3 = part_element b i 3 8 (omega arith) in
    let p4 = part_element b i 4 8 (omega arith) in
    let p5 = part_element b i 5 8 (omega arith) in
    let p6 = part_element b i 6 8 (omega arith) in
    let p7 = part_element b i 7 8 (omega arith) in
    rw e (omega arith)

pub rank_bound : (k : ℕ) (s : List ℕ) → AllBytes s → rank k s < 256 ^ k
unfolding rank
rank_bound zero s h = omega arith
rank_bound (suc k) [] h = omega (arith, pow-succ' 256 k, rank_bound k [] (λ j. h j))
rank_bound (suc k) (x ∷ s) h =
    let m : suc x * 256 ^ k ≤ 256 * 256 ^ k = mul-le-mul_right (256 ^ k) (h 0) in
    omega (arith, suc-mul x (256 ^ k), rank_bound k s (λ j. h (suc j)), pow-succ' 256 k)

-- A greater first byte is a greater number.
pub greater : (x y p q r : ℕ) → p < r → x < y → x * r + p < y * r + q
greater x y p q r h l = let m : suc x * r ≤ y * r = mul-le-mul_right r l in omega (arith, suc-mul x r)

-- A smaller number is that of the key before; behind a shorter key zeros count.
pub rank_less : (k : ℕ) (s t : List ℕ) → AllBytes s → AllBytes t → rank k s < rank k t → before s t ≡ true
unfolding rank
rank_less zero s t p q l = absurd (omega arith)
rank_less (suc k) [] [] p q l = absurd (omega arith)
rank_less (suc k) [] (y ∷ t) p q l = refl
rank_less (suc k) (x ∷ s) [] p q l = absurd (omega arith)
rank_less (suc k) (x ∷ s) (y ∷ t) p q l =
    elim (either (ltb x y)) [
      | inl e ↦ or_l (ltb x y) _ e
      | inr e ↦ elim (either (eqb x y)) [
        | inl d ↦
            let m : x * 256 ^ k ≡ y * 256 ^ k = ap (λ (z : ℕ). z * 256 ^ k) (eqb-true x y d) in
            or_r (ltb x y) _ (and_i (eqb x y) _ d (rank_less k s t (λ j. p (suc j)) (λ j. q (suc j)) (omega arith)))
        | inr d ↦ absurd (omega (arith, eqb-false x y d, greater y x (rank k t) (rank k s) (256 ^ k) (rank_bound k t (λ j. q (suc j))) (omega (arith, ltb-false x y e, eqb-false x y d))))
      ]
    ]

-- Equal numbers are those of equal bytes, as far as both go.
pub rank_shared : (k m : ℕ) (s t : List ℕ) → AllBytes s → AllBytes t → m ≤ k → m ≤ length s → m ≤ length t → rank k s ≡ rank k t → take m s ≡ take m t
unfolding rank
rank_shared k zero s t p q f h g l = refl
rank_shared zero (suc m) s t p q f h g l = absurd (omega arith)
rank_shared (suc k) (suc m) [] t p q f h g l = absurd (omega arith)
rank_shared (suc k) (suc m) (x ∷ s) [] p q f h g l = absurd (omega arith)
rank_shared (suc k) (suc m) (x ∷ s) (y ∷ t) p q f h g l =
    elim (either (ltb x y)) [
      | inl e ↦ absurd (omega (arith, greater x y (rank k s) (rank k t) (256 ^ k) (rank_bound k s (λ j. p (suc j))) (ltb-true x y e)))
      | inr e ↦ elim (either (ltb y x)) [
        | inl d ↦ absurd (omega (arith, greater y x (rank k t) (rank k s) (256 ^ k) (rank_bound k t (λ j. q (suc j))) (ltb-true y x d)))
        | inr d ↦
            let z : x ≡ y = omega (arith, ltb-false x y e, ltb-false y x d) in
            let n : x * 256 ^ k ≡ y * 256 ^ k = ap (λ (w : ℕ). w * 256 ^ k) z in
            ap₂ (λ (w : ℕ) (l : List ℕ). w ∷ l) z (rank_shared k m s t (λ j. p (suc j)) (λ j. q (suc j)) (omega arith) (omega arith) (omega arith) (omega arith))
      ]
    ]

pub rank_same : (k : ℕ) (s t : List ℕ) → AllBytes s → AllBytes t → k ≤ length s → k ≤ length t → rank k s ≡ rank k t → take k s ≡ take k t
rank_same k s t p q h g l = rank_shared k k s t p q (omega arith) h g l

-- Keys with the same first bytes stand as what follows these.
alike_take : (i : ℕ) (a b : List ℕ) → i ≤ length a → i ≤ length b → take i a ≡ take i b → Alike a b (drop i a) (drop i b)
alike_take zero a b h g e = alike_start a b
alike_take (suc i) [] b h g e = absurd (omega arith)
alike_take (suc i) (x ∷ a) [] h g e = absurd (omega arith)
alike_take (suc i) (x ∷ a) (y ∷ b) h g e =
    let z : x ≡ y = cc in
    let r : take i a ≡ take i b = cc in
    record { alike = λ o. same_head o x y a b z ∙ (alike_take i a b (omega arith) (omega arith) r).alike o }

pub all_bytes : (s : List ℕ) → ((j : ℕ) → Fits w8 (get_or s j 0)) → AllBytes s
all_bytes s h j = omega (arith, h j)

module _ (a b : List ℕ) (i x y : ℕ) (p : AllBytes a) (q : AllBytes b)
    (h : i + 8 ≤ length a) (g : i + 8 ≤ length b) (e : take i a ≡ take i b) (ex : x ≡ rank 8 (drop i a)) (ey : y ≡ rank 8 (drop i b)) where
  left_bytes : AllBytes (drop i a)
  left_bytes = bytes_drop i a p

  right_bytes : AllBytes (drop i b)
  right_bytes = bytes_drop i b q

  pub eight_less : x < y → is_order Less a b ≡ true
  eight_less d = (alike_take i a b (omega arith) (omega arith) e).alike Less ∙ rank_less 8 (drop i a) (drop i b) left_bytes right_bytes (omega arith)

  pub eight_more : y < x → is_order Greater a b ≡ true
  eight_more d = (alike_take i a b (omega arith) (omega arith) e).alike Greater ∙ rank_less 8 (drop i b) (drop i a) right_bytes left_bytes (omega arith)

  pub eight_same : y ≤ x → x ≤ y → take (i + 8) a ≡ take (i + 8) b
  eight_same d f =
      take-add i 8 a
      ∙ ap₂ (λ (s t : List ℕ). s ++ t) e (rank_same 8 (drop i a) (drop i b) left_bytes right_bytes (rw length-drop (omega arith)) (rw length-drop (omega arith)) (omega arith))
      ∙ sym (take-add i 8 b)

  -- The words in order, as `cmp` answers.
  module _ (o : Ordering) (eo : o ≡ nat_cmp x y) where
    pub eight_order : (x ≡ y → ⊥) → is_order o a b ≡ true
    eight_order = go o (ranked x y o eo)
      where
        go : (o : Ordering) → MatchOrdering o (x < y) (x ≡ y) (y < x) → (x ≡ y → ⊥) → is_order o a b ≡ true
        go Less m t = eight_less m
        go Equal m t = absurd (t m)
        go Greater m t = eight_more m

-- Of keys of which the one begins the other the lengths decide.
length_order : (a b : List ℕ) (n : ℕ) (o : Ordering) → n ≡ min (length a) (length b) → take n a ≡ take n b → o ≡ nat_cmp (length a) (length b) → is_order o a b ≡ true
length_order a b n o m e eo = go o (ranked (length a) (length b) o eo)
  where
    rest : Alike a b (drop n a) (drop n b)
    rest = alike_take n a b (omega arith) (omega arith) e

    go : (o : Ordering) → MatchOrdering o (length a < length b) (length a ≡ length b) (length b < length a) → is_order o a b ≡ true
    go Less h = rest.alike Less ∙ rw (drop_of_length-le a {i = n} (omega arith), next b n (omega arith))
    go Equal h = rest.alike Equal ∙ rw (drop_of_length-le a {i = n} (omega arith), drop_of_length-le b {i = n} (omega arith))
    go Greater h = rest.alike Greater ∙ rw (drop_of_length-le b {i = n} (omega arith), next a n (omega arith))

-- Where the shorter has no more bytes than a head, the lengths decide.
pub all_shared : (a b : List ℕ) (n : ℕ) (o : Ordering) → SharesHead a b → n ≡ min (length a) (length b) → n ≤ 16 → o ≡ nat_cmp (length a) (length b) → is_order o a b ≡ true
all_shared a b n o s e h f = let z : min 16 (min (length a) (length b)) ≡ n = omega arith in length_order a b n o e (rw z at s.shared) f

-- what holds at each turn: of the n bytes that both keys have the first i are the same
pub record Words (a b : List ℕ) (n i : ℕ) : Type 0 where
  pub left : AllBytes a
  pub right : AllBytes b
  pub least : n ≡ min (length a) (length b)
  pub eight : 8 ≤ n
  pub shared : take i a ≡ take i b

pub words_start : (a b : List ℕ) (n : ℕ) → ((j : ℕ) → Fits w8 (get_or a j 0)) → ((j : ℕ) → Fits w8 (get_or b j 0)) → SharesHead a b → n ≡ min (length a) (length b) → 16 < n → Words a b n 16
words_start a b n p q s e h =
    let z : min 16 (min (length a) (length b)) ≡ 16 = omega arith in
    record { left = all_bytes a p; right = all_bytes b q; least = e; eight = omega arith; shared = rw z at s.shared }

module _ (a b : List ℕ) (n i : ℕ) (w : Words a b n i) (x y : ℕ) where
  module _ (h : i < n - 8) (ex : x ≡ rank 8 (drop i a)) (ey : y ≡ rank 8 (drop i b)) where
    left : i + 8 ≤ length a
    left = omega (arith, w.least)

    right : i + 8 ≤ length b
    right = omega (arith, w.least)

    pub words_order : (o : Ordering) → o ≡ nat_cmp x y → (x ≡ y → ⊥) → is_order o a b ≡ true
    words_order o e d = eight_order a b i x y w.left w.right left right w.shared ex ey o e d

    pub words_again : x ≡ y → Words a b n (i + 8)
    words_again e =
        record { left = w.left; right = w.right; least = w.least; eight = w.eight; shared = eight_same a b i x y w.left w.right left right w.shared ex ey (omega arith) (omega arith) }

  module _ (h : n - 8 ≤ i) (ex : x ≡ rank 8 (drop (n - 8) a)) (ey : y ≡ rank 8 (drop (n - 8) b)) (u v o : Ordering) (eu : u ≡ nat_cmp x y) (ev : v ≡ nat_cmp (length a) (length b)) (eo : o ≡ ordering_then u v) where
    start : take (n - 8) a ≡ take (n - 8) b
    start = sym (take-take (n - 8) i a h) ∙ ap (take (n - 8)) w.shared ∙ take-take (n - 8) i b h

    pub words_end : is_order o a b ≡ true
    words_end = go u (ranked x y u eu) eo
      where
        left : n - 8 + 8 ≤ length a
        left = omega (arith, w.least, w.eight)

        right : n - 8 + 8 ≤ length b
        right = omega (arith, w.least, w.eight)

        go : (u : Ordering) → MatchOrdering u (x < y) (x ≡ y) (y < x) → o ≡ ordering_then u v → is_order o a b ≡ true
        go Less m e = rw e (eight_less a b (n - 8) x y w.left w.right left right start ex ey m)
        go Equal m e =
            let z : n - 8 + 8 ≡ n = omega (arith, w.eight) in
            length_order a b n o w.least (rw z at (eight_same a b (n - 8) x y w.left w.right left right start ex ey (omega arith) (omega arith))) (e ∙ ev)
        go Greater m e = rw e (eight_more a b (n - 8) x y w.left w.right left right start ex ey m)

-- ## What an order says of the other two

pub order_by : (r : Ordering) (a b : List ℕ) → r ≡ slice_cmp nat_cmp a b → is_order r a b ≡ true
order_by r a b e = rw e (slice_order a b)

pub same_one : (a b : List ℕ) → same a b ≡ true → before a b ≡ false
same_one a b e = rw (same_path a b e) (before_irrefl b)

pub after_one : (a b : List ℕ) → before b a ≡ true → before a b ≡ false
after_one a b e =
    elim (either (before a b)) [
      | inl s ↦ absurd (clash (before a a) (before_trans a b a s e) (before_irrefl a))
      | inr s ↦ s
    ]

pub after_other : (a b : List ℕ) → before b a ≡ true → same a b ≡ false
after_other a b e = same_sym a b ∙ before_other b a e
