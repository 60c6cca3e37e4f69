-- A row's key and a key by the bytes of their heads.
use Prim.Native.Nat.{ℕ, zero, suc, ◌+◌, ◌-◌, ◌*◌, ◌≤◌, ◌<◌, min}
use mathlib.Core.Path.{◌≡◌, refl, sym, ap, ◌∙◌}
use mathlib.Core.Logic.{◌⊎◌, inl, inr}
use mathlib.Core.Bool.{true, false≢true}
use mathlib.Core.List.{List, [], ◌∷◌}
use native.Mathlib.Omega.{arith}
use native.Mathlib.Nat.{le_of_eq}
use mir.Val.{Fits}
use mir.Syntax.{w8}
use lib.Dec.{ltb, eqb}
use lib.ListN.{length, get_or, take, drop, length-drop, length-take, drop_of_length-le}
use lib.Seq.{take_all, take-take, drop-drop}
use borrow.Author.Tests.{ltb-true, ltb-false}
use Rattle.buffers.specs.Words.{AllBytes}
use Rattle.buffers.proofs.Lists.{drop_take}
use Rattle.buffers.proofs.Tests.{either, and_i, and_l, and_r, or_l, or_r, or_one}
use Rattle.buffers.proofs.Words.{bytes_take, bytes_drop}
use Rattle.blocks.specs.Blocks.{key_in}
use Rattle.model.specs.Rows.{before}
use Rattle.std.specs.declared.cmp.Ordering.{Ordering}
use Rattle.std.specs.declared.cmp.Ordering.TheVariants.{Less, Equal, Greater}
use Rattle.std.specs.Ordering.{nat_cmp, ordering_then, is_lt, is_eq, is_gt, MatchOrdering}
use Rattle.std.proofs.lemmas.Cmp.{ranked}
use Rattle.search.specs.Keys.{rank, IsHead, SharesHead}
use Rattle.search.proofs.Comparing.{rank_less, rank_shared, all_bytes}
use Rattle.search.proofs.Ranking.{rank_take}

-- ## Two words

rank_words : (l : List ℕ) → rank 16 l ≡ rank 8 l * 18446744073709551616 + rank 8 (drop 8 l)
unfolding rank
rank_words [] = refl
rank_words (a ∷ []) = omega arith
rank_words (a ∷ b ∷ []) = omega arith
rank_words (a ∷ b ∷ c ∷ []) = omega arith
rank_words (a ∷ b ∷ c ∷ d ∷ []) = omega arith
rank_words (a ∷ b ∷ c ∷ d ∷ e ∷ []) = omega arith
rank_words (a ∷ b ∷ c ∷ d ∷ e ∷ f ∷ []) = omega arith
rank_words (a ∷ b ∷ c ∷ d ∷ e ∷ f ∷ g ∷ []) = omega arith
rank_words (a ∷ b ∷ c ∷ d ∷ e ∷ f ∷ g ∷ h ∷ l) = omega arith

-- the one head is less than the other
abbrev words_less : List ℕ → List ℕ → Type 0
words_less s t = (rank 8 s < rank 8 t) ⊎ ((rank 8 s ≡ rank 8 t) × (rank 8 (drop 8 s) < rank 8 (drop 8 t)))

words_before : (s t : List ℕ) → AllBytes s → AllBytes t → words_less s t → before s t ≡ true
words_before s t p q (inl h) = rank_less 8 s t p q h
words_before s t p q (inr h) = rank_less 16 s t p q (omega (arith, rank_words s, rank_words t, h.0, h.1))

-- ## Keys that are cut off

-- What is before a key is so without its end,
cut_before : (n : ℕ) (s t : List ℕ) → before s t ≡ true → before (take n s) t ≡ true
cut_before n s [] e = e
cut_before zero s (b ∷ t) e = refl
cut_before (suc n) [] (b ∷ t) e = e
cut_before (suc n) (a ∷ s) (b ∷ t) e =
    elim (or_one (ltb a b) _ e) [
      | inl h ↦ or_l (ltb a b) _ h
      | inr h ↦ or_r (ltb a b) _ (and_i (eqb a b) _ (and_l (eqb a b) _ h) (cut_before n s t (and_r (eqb a b) _ h)))
    ]

-- and so it is before a key of which more bytes are left than it has.
before_cut : (n : ℕ) (s t : List ℕ) → length s < n → before s t ≡ true → before s (take n t) ≡ true
before_cut zero s t h e = absurd (omega arith)
before_cut (suc n) s [] h e = e
before_cut (suc n) [] (b ∷ t) h e = refl
before_cut (suc n) (a ∷ s) (b ∷ t) h e =
    elim (or_one (ltb a b) _ e) [
      | inl d ↦ or_l (ltb a b) _ d
      | inr d ↦ or_r (ltb a b) _ (and_i (eqb a b) _ (and_l (eqb a b) _ d) (before_cut n s t (omega arith) (and_r (eqb a b) _ d)))
    ]

-- ## A row's key

module _ (b : List ℕ) (p : (j : ℕ) → Fits w8 (get_or b j 0)) where
  -- the bytes of a row's block behind the first
  abbrev body : List ℕ
  body = drop 1 b

  body_bytes : AllBytes body
  body_bytes = bytes_drop 1 b (all_bytes b p)

  body_second : drop 8 body ≡ drop 9 b
  body_second = drop-drop 8 1 b

  -- A key of sixteen bytes has their words.
  cut_words : (n : ℕ) (k : List ℕ) → 16 ≤ n → words_less k body → words_less k (take n body)
  cut_words n k h w =
      let e : rank 8 (take n body) ≡ rank 8 body = rank_take 8 n body (omega arith) in
      let f : rank 8 (drop 8 (take n body)) ≡ rank 8 (drop 8 body) = ap (rank 8) (drop_take 8 n body) ∙ rank_take 8 (n - 8) (drop 8 body) (omega arith) in
      rw (e, f) w

  module _ (k : List ℕ) (x y : ℕ) (ex : x ≡ rank 8 k) (ey : y ≡ rank 8 (drop 8 k)) (q : AllBytes k) where
    less_before : (rank 8 body < x) ⊎ ((rank 8 body ≡ x) × (rank 8 (drop 9 b) < y)) → before (key_in b) k ≡ true
    less_before e = cut_before (get_or b 0 0) body k (words_before body k body_bytes q (rw (body_second, sym ex, sym ey) e))

    more_after : (need : ℕ) → need ≡ min 16 (length k + 1) → need ≤ get_or b 0 0
        → (x < rank 8 body) ⊎ ((x ≡ rank 8 body) × (y < rank 8 (drop 9 b))) → before k (key_in b) ≡ true
    more_after need r enough e =
        elim (either (ltb need (length k + 1))) [
          | inl h ↦
              words_before k (take (get_or b 0 0) body) q (bytes_take (get_or b 0 0) body body_bytes)
              (cut_words (get_or b 0 0) k (omega (arith, ltb-true need (length k + 1) h)) words)
          | inr h ↦ before_cut (get_or b 0 0) k body (omega (arith, ltb-false need (length k + 1) h)) (words_before k body q body_bytes words)
        ]
      where
        words : words_less k body
        words = rw (body_second, sym ex, sym ey) e

-- ## What the code learns

-- Two numbers, the first counting most.
module _ (p q x y : ℕ) where
  pair_less : ordering_then (nat_cmp p x) (nat_cmp q y) ≡ Less → (p < x) ⊎ ((p ≡ x) × (q < y))
  pair_less = go (nat_cmp p x) (nat_cmp q y) (ranked p x _ refl) (ranked q y _ refl)
    where
      go : (u v : Ordering) → MatchOrdering u (p < x) (p ≡ x) (x < p) → MatchOrdering v (q < y) (q ≡ y) (y < q) → ordering_then u v ≡ Less → (p < x) ⊎ ((p ≡ x) × (q < y))
      go Less v m n e = inl m
      go Equal Less m n e = inr (m, n)
      go Equal Equal m n e = absurd (false≢true (ap is_lt e))
      go Equal Greater m n e = absurd (false≢true (ap is_lt e))
      go Greater v m n e = absurd (false≢true (ap is_lt e))

  pair_same : ordering_then (nat_cmp p x) (nat_cmp q y) ≡ Equal → (p ≡ x) × (q ≡ y)
  pair_same = go (nat_cmp p x) (nat_cmp q y) (ranked p x _ refl) (ranked q y _ refl)
    where
      go : (u v : Ordering) → MatchOrdering u (p < x) (p ≡ x) (x < p) → MatchOrdering v (q < y) (q ≡ y) (y < q) → ordering_then u v ≡ Equal → (p ≡ x) × (q ≡ y)
      go Less v m n e = absurd (false≢true (ap is_eq e))
      go Equal Less m n e = absurd (false≢true (ap is_eq e))
      go Equal Equal m n e = (m, n)
      go Equal Greater m n e = absurd (false≢true (ap is_eq e))
      go Greater v m n e = absurd (false≢true (ap is_eq e))

  pair_more : ordering_then (nat_cmp p x) (nat_cmp q y) ≡ Greater → (x < p) ⊎ ((x ≡ p) × (y < q))
  pair_more = go (nat_cmp p x) (nat_cmp q y) (ranked p x _ refl) (ranked q y _ refl)
    where
      go : (u v : Ordering) → MatchOrdering u (p < x) (p ≡ x) (x < p) → MatchOrdering v (q < y) (q ≡ y) (y < q) → ordering_then u v ≡ Greater → (x < p) ⊎ ((x ≡ p) × (y < q))
      go Less v m n e = absurd (false≢true (ap is_gt e))
      go Equal Less m n e = absurd (false≢true (ap is_gt e))
      go Equal Equal m n e = absurd (false≢true (ap is_gt e))
      go Equal Greater m n e = inr (sym m, n)
      go Greater v m n e = inl m

module _ (b k : List ℕ) (first second need : ℕ) (d : IsHead k first second need) (p q : ℕ) (ep : p ≡ rank 8 (drop 1 b)) (eq : q ≡ rank 8 (drop 9 b))
    (fb : (j : ℕ) → Fits w8 (get_or b j 0)) (o x y : Ordering) (ox : x ≡ nat_cmp p first) (oy : y ≡ nat_cmp q second) (oo : o ≡ ordering_then x y) where
  both : o ≡ ordering_then (nat_cmp (rank 8 (drop 1 b)) first) (nat_cmp (rank 8 (drop 9 b)) second)
  both = rw (← ep, ← eq, ← ox, ← oy) oo

  pub head_same : (key : List ℕ) → key ≡ key_in b → o ≡ Equal → 64 ≤ length b → get_or b 0 0 ≤ 63 → SharesHead key k
  head_same key f l long short =
      let n = get_or b 0 0 in
      let m = min 16 (min (length (key_in b)) (length k)) in
      let e = pair_same _ _ first second (sym both ∙ l) in
      let body_long : length (drop 1 b) ≡ length b - 1 = length-drop 1 b in
      let key_long : length (key_in b) ≡ min n (length (drop 1 b)) = length-take n (drop 1 b) in
      let z : rank 16 (drop 1 b) ≡ rank 16 k = rank_words (drop 1 b) ∙ rw (drop-drop 8 1 b, e.0, e.1, d.first_is, d.second_is) (sym (rank_words k)) in
      rw f (record {
        shared =
            take-take m n (drop 1 b) (omega arith) ∙ rank_shared 16 m (drop 1 b) k (bytes_drop 1 b (all_bytes b fb)) d.bytes (omega arith) (omega arith) (omega arith) z;
      })

  pub head_less : o ≡ Less → before (key_in b) k ≡ true
  head_less l = less_before b fb k first second d.first_is d.second_is d.bytes (pair_less _ _ first second (sym both ∙ l))

  pub head_more : o ≡ Greater → need ≤ get_or b 0 0 → before k (key_in b) ≡ true
  head_more l enough = more_after b fb k first second d.first_is d.second_is d.bytes need d.enough enough (pair_more _ _ first second (sym both ∙ l))

-- the second word of a key
pub second_none : (k : List ℕ) → length k ≤ 8 → 0 ≡ rank 8 (drop 8 k)
unfolding rank
second_none k h = rw (drop_of_length-le k {i = 8} h)

pub second_rest : (k : List ℕ) (r : ℕ) → r ≡ rank 8 (take (length k - 8) (drop 8 k)) → r ≡ rank 8 (drop 8 k)
second_rest k r e = e ∙ ap (rank 8) (take_all (length k - 8) (drop 8 k) (le_of_eq (length-drop 8 k)))
