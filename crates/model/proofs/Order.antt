-- The order of keys and of rows, and that each change of the table keeps it.
use Prim.Native.Nat.{ℕ, zero, suc, ◌<◌}
use mathlib.Core.Path.{◌≡◌, refl, sym, ◌∙◌}
use mathlib.Core.Logic.{◌⊎◌, inl, inr}
use mathlib.Core.Bool.{Bool, true, false, true≢false, false≢true}
use mathlib.Core.List.{List, [], ◌∷◌}
use native.Mathlib.Omega.{arith}
use lib.Dec.{eqb, ltb}
use lib.ListN.{length, get_or, drop}
use borrow.Author.Tests.{eqb-true, eqb-false, eq-eqb, ltb-true, ltb-false, lt-ltb, le-ltb}
use Rattle.buffers.specs.Lists.{all, keep, change, same}
use Rattle.buffers.proofs.Tests.{either, clash, and_i, and_l, and_r, or_l, or_r, or_one, or_none}
use Rattle.buffers.proofs.Lists.{same_path, same_refl, all_as, all_at, all_keep, all_change}
use Rattle.model.specs.Rows.{Row, before, ahead, ordered}
use Rattle.model.specs.Effects.{insert_by_key}

-- ## Keys

pub before_trans : (i j k : List ℕ) → before i j ≡ true → before j k ≡ true → before i k ≡ true
before_trans i j [] p q = q
before_trans i [] (z ∷ zs) p q = absurd (false≢true p)
before_trans [] (y ∷ ys) (z ∷ zs) p q = refl
before_trans (x ∷ xs) (y ∷ ys) (z ∷ zs) p q =
    elim (or_one (ltb x y) _ p) [
      | inl a ↦ elim (or_one (ltb y z) _ q) [
        | inl b ↦ or_l (ltb x z) _ (lt-ltb x z (omega (arith, ltb-true x y a, ltb-true y z b)))
        | inr b ↦ or_l (ltb x z) _ (lt-ltb x z (omega (arith, ltb-true x y a, eqb-true y z (and_l _ _ b))))
      ]
      | inr a ↦ elim (or_one (ltb y z) _ q) [
        | inl b ↦ or_l (ltb x z) _ (lt-ltb x z (omega (arith, ltb-true y z b, eqb-true x y (and_l _ _ a))))
        | inr b ↦ or_r (ltb x z) _ (and_i (eqb x z) _ (eq-eqb x z (eqb-true x y (and_l _ _ a) ∙ eqb-true y z (and_l _ _ b)))
            (before_trans xs ys zs (and_r (eqb x y) _ a) (and_r (eqb y z) _ b)))
      ]
    ]

-- No key is before itself.
pub before_irrefl : (k : List ℕ) → before k k ≡ false
before_irrefl [] = refl
before_irrefl (x ∷ xs) = simp (le-ltb x x (omega arith), eq-eqb x x refl) (before_irrefl xs)

-- A key before another is not the same.
pub before_other : (j k : List ℕ) → before j k ≡ true → same j k ≡ false
before_other j k e =
    elim (either (same j k)) [
      | inl s ↦ absurd (clash (before k k) (rw (same_path j k s) at e) (before_irrefl k))
      | inr s ↦ s
    ]

-- Of two keys, one is before the other or they are the same.
pub before_or : (j k : List ℕ) → before j k ≡ false → (before k j ≡ true) ⊎ (same k j ≡ true)
before_or [] [] e = inr refl
before_or (x ∷ xs) [] e = inl refl
before_or [] (y ∷ ys) e = absurd (true≢false e)
before_or (x ∷ xs) (y ∷ ys) e =
    let g = or_none (ltb x y) _ e in
    elim (either (eqb x y)) [
      | inl a ↦
          let back : eqb y x ≡ true = eq-eqb y x (sym (eqb-true x y a)) in
          elim (before_or xs ys (rw a at g.1)) [
            | inl b ↦ inl (or_r (ltb y x) _ (and_i (eqb y x) _ back b))
            | inr b ↦ inr (rw back b)
          ]
      | inr a ↦ inl (or_l (ltb y x) _ (lt-ltb y x (omega (arith, ltb-false x y g.0, eqb-false x y a))))
    ]

-- ## Rows

pub ahead_trans : (x y z : Row) → ahead x y ≡ true → ahead y z ≡ true → ahead x z ≡ true
ahead_trans x y z p q =
    elim (or_one (before x.key y.key) _ p) [
      | inl a ↦ elim (or_one (before y.key z.key) _ q) [
        | inl b ↦ or_l (before x.key z.key) _ (before_trans x.key y.key z.key a b)
        | inr b ↦ or_l (before x.key z.key) _ (rw (same_path y.key z.key (and_l _ _ b)) at a)
      ]
      | inr a ↦ elim (or_one (before y.key z.key) _ q) [
        | inl b ↦ or_l (before x.key z.key) _ (rw (same_path x.key y.key (and_l _ _ a)) b)
        | inr b ↦ or_r (before x.key z.key) _ (and_i (same x.key z.key) _
            (rw (same_path y.key z.key (and_l _ _ b)) at (and_l (same x.key y.key) _ a))
            (lt-ltb z.number x.number (omega (arith, ltb-true y.number x.number (and_r (same x.key y.key) _ a), ltb-true z.number y.number (and_r (same y.key z.key) _ b)))))
      ]
    ]

pub ahead_irrefl : (x : Row) → ahead x x ≡ false
ahead_irrefl x = simp (before_irrefl x.key, same_refl x.key, le-ltb x.number x.number (omega arith))

pub ahead_asym : (x y : Row) → ahead x y ≡ true → ahead y x ≡ false
ahead_asym x y e =
    elim (either (ahead y x)) [
      | inl f ↦ absurd (clash (ahead x x) (ahead_trans x y x e f) (ahead_irrefl x))
      | inr f ↦ f
    ]

-- Of ordered rows an earlier one is ahead of a later one.
pub ordered_at : (xs : List Row) (i j : ℕ) (d : Row) → ordered xs ≡ true → i < j → j < length xs → ahead (get_or xs i d) (get_or xs j d) ≡ true
ordered_at [] i j d o h g = absurd (omega arith)
ordered_at (x ∷ xs) i zero d o h g = absurd (omega arith)
ordered_at (x ∷ xs) zero (suc j) d o h g = all_at (ahead x) xs j d (omega arith) (and_l _ _ o)
ordered_at (x ∷ xs) (suc i) (suc j) d o h g = ordered_at xs i j d (and_r (all (ahead x) xs) _ o) (omega arith) (omega arith)

-- the row of a key's version, its other numbers 0
abbrev pub version_row : List ℕ → ℕ → Row
version_row k v = record { number = v; kind = 0; created = 0; body = 0; size = 0; mode = 0; until = 0; hold = 0; key = k }

-- ## Changes of the table

pub all_insert : (p : Row → Bool) (x : Row) (xs : List Row) → p x ≡ true → all p xs ≡ true → all p (insert_by_key x xs) ≡ true
all_insert p x [] h e = and_i (p x) _ h refl
all_insert p x (y ∷ ys) h e =
    elim (either (before y.key x.key)) [
      | inl t ↦ rw t (and_i (p y) _ (and_l _ _ e) (all_insert p x ys h (and_r (p y) _ e)))
      | inr t ↦ rw t (and_i (p x) _ h e)
    ]

-- A row whose key is not after y's, and whose number is higher, is ahead of y.
ahead_new : (x y : Row) → before y.key x.key ≡ false → ltb y.number x.number ≡ true → ahead x y ≡ true
ahead_new x y t l =
    elim (before_or y.key x.key t) [
      | inl a ↦ or_l (before x.key y.key) _ a
      | inr a ↦ or_r (before x.key y.key) _ (and_i (same x.key y.key) _ a l)
    ]

-- A new row with a number above all others.
pub ordered_insert : (x : Row) (xs : List Row) → all (λ y. ltb y.number x.number) xs ≡ true → ordered xs ≡ true → ordered (insert_by_key x xs) ≡ true
ordered_insert x [] l o = refl
ordered_insert x (y ∷ ys) l o =
    elim (either (before y.key x.key)) [
      | inl t ↦ rw t (and_i (all (ahead y) (insert_by_key x ys)) _
          (all_insert (ahead y) x ys (or_l (before y.key x.key) _ t) (and_l _ _ o))
          (ordered_insert x ys (and_r (ltb y.number x.number) _ l) (and_r (all (ahead y) ys) _ o)))
      | inr t ↦
          let h : ahead x y ≡ true = ahead_new x y t (and_l _ _ l) in
          rw t (and_i (all (ahead x) (y ∷ ys)) _
          (and_i (ahead x y) _ h (all_as (ahead y) (ahead x) (λ z d. ahead_trans x y z h d) ys (and_l _ _ o)))
          o)
    ]

pub ordered_keep : (p : Row → Bool) (xs : List Row) → ordered xs ≡ true → ordered (keep p xs) ≡ true
ordered_keep p [] o = refl
ordered_keep p (x ∷ xs) o =
    elim (either (p x)) [
      | inl t ↦ rw t (and_i (all (ahead x) (keep p xs)) _ (all_keep (ahead x) p xs (and_l _ _ o)) (ordered_keep p xs (and_r (all (ahead x) xs) _ o)))
      | inr t ↦ rw t (ordered_keep p xs (and_r (all (ahead x) xs) _ o))
    ]

pub ordered_drop : (i : ℕ) (xs : List Row) → ordered xs ≡ true → ordered (drop i xs) ≡ true
ordered_drop zero xs o = o
ordered_drop (suc i) [] o = refl
ordered_drop (suc i) (x ∷ xs) o = ordered_drop i xs (and_r (all (ahead x) xs) _ o)

-- A change of neither key nor number.
pub ordered_change : (q : Row → Bool) (f : Row → Row) → ((x y : Row) → ahead x (f y) ≡ ahead x y) → ((x y : Row) → ahead (f x) y ≡ ahead x y) → (xs : List Row) → ordered xs ≡ true → ordered (change q f xs) ≡ true
ordered_change q f r l [] o = refl
ordered_change q f r l (x ∷ xs) o =
    let rest = ordered_change q f r l xs (and_r (all (ahead x) xs) _ o) in
    let h = all_change (ahead x) (ahead x) q f (λ y e t. r x y ∙ e) (λ y e. e) xs (and_l (all (ahead x) xs) _ o) in
    elim (either (q x)) [
      | inl t ↦ rw t (and_i (all (ahead (f x)) (change q f xs)) _ (all_as (ahead x) (ahead (f x)) (λ y e. l x y ∙ e) (change q f xs) h) rest)
      | inr t ↦ rw t (and_i (all (ahead x) (change q f xs)) _ h rest)
    ]
