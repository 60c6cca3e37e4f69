-- How the rows of a table stand to a key and a version, and to a prefix.
use Prim.Native.Nat.{ℕ}
use mathlib.Core.Path.{◌≡◌, refl, sym, ◌∙◌}
use mathlib.Core.Logic.{inl, inr}
use mathlib.Core.Bool.{true, false, not, ◌&&◌, true≢false, false≢true}
use mathlib.Core.List.{List, [], ◌∷◌}
use native.Mathlib.Omega.{arith}
use lib.Dec.{eqb, ltb}
use borrow.Author.Tests.{eqb-true, eq-eqb, ltb-true, ltb-false, le-ltb, not-true}
use Rattle.buffers.specs.Lists.{begins}
use Rattle.buffers.proofs.Tests.{either, clash, and_l, and_r, or_l, or_r, or_one, or_none}
use Rattle.buffers.proofs.Lists.{same_path}
use Rattle.model.specs.Rows.{Row, before, ahead}
use Rattle.model.specs.Pages.{matches, comes_after}
use Rattle.model.proofs.Order.{before_or}
use Rattle.model.proofs.Pages.{after_trans}
use Rattle.search.proofs.Comparing.{same_one, after_one, after_other}
use Rattle.search.proofs.Halving.{key_ahead}
use Rattle.listing.specs.Places.{up_to}

-- ## A key and a version

-- Before a key's first row stand the rows whose keys are before it.
pub before_first : (k : List ℕ) (x : Row) → not (comes_after k 0 x) ≡ before x.key k
unfolding comes_after
before_first k x =
    elim (either (before x.key k)) [
      | inl b ↦ simp (after_one k x.key b, after_other k x.key b, b)
      | inr b ↦ elim (before_or x.key k b) [
        | inl a ↦ simp (a, b)
        | inr a ↦ simp (a, b, same_one k x.key a)
      ]
    ]

-- A row ahead of one that does not come after the key and the version does not either.
pub after_falls : (k : List ℕ) (v : ℕ) (x y : Row) → ahead x y ≡ true → not (comes_after k v y) ≡ true → not (comes_after k v x) ≡ true
after_falls k v x y a e =
    elim (either (comes_after k v x)) [
      | inl f ↦ absurd (clash (comes_after k v y) (after_trans k v x y f a) (not-true (comes_after k v y) e))
      | inr f ↦ rw f
    ]

-- ## A prefix

-- A key that begins with a prefix is not before it.
begins_not_before : (p k : List ℕ) → begins p k ≡ true → before k p ≡ false
begins_not_before [] k e = refl
begins_not_before (a ∷ p) [] e = absurd (false≢true e)
begins_not_before (a ∷ p) (b ∷ k) e =
    elim (either (eqb a b)) [
      | inl q ↦
          let s : b ≡ a = sym (eqb-true a b q) in
          rw (le-ltb b a (omega arith), eq-eqb b a s) (begins_not_before p k (rw q at e))
      | inr q ↦ absurd (false≢true (rw q at e))
    ]

-- Between a prefix and a key that begins with it, every key begins with it.
begins_between : (p j k : List ℕ) → before j p ≡ false → before j k ≡ true → begins p k ≡ true → begins p j ≡ true
begins_between [] j k a b e = refl
begins_between (c ∷ p) [] k a b e = absurd (true≢false a)
begins_between (c ∷ p) (x ∷ j) [] a b e = absurd (false≢true e)
begins_between (c ∷ p) (x ∷ j) (y ∷ k) a b e =
    elim (either (eqb c y)) [
      | inr q ↦ absurd (false≢true (rw q at e))
      | inl q ↦
          let cy : c ≡ y = eqb-true c y q in
          let g = or_none (ltb x c) _ a in
          elim (or_one (ltb x y) _ b) [
            | inl l ↦ absurd (omega (arith, ltb-true x y l, ltb-false x c g.0))
            | inr l ↦
                let xy : x ≡ y = eqb-true x y (and_l _ _ l) in
                let xc : eqb x c ≡ true = eq-eqb x c (xy ∙ sym cy) in
                rw (eq-eqb c x (cy ∙ sym xy)) (begins_between p j k (rw xc at g.1) (and_r (eqb x y) _ l) (rw q at e))
          ]
    ]

-- The matching rows are those up to the prefix's last row whose keys are not before the prefix.
pub matches_up_to : (p : List ℕ) (x : Row) → matches p x ≡ (up_to p x && not (before x.key p))
matches_up_to p x =
    elim (either (before x.key p)) [
      | inr b ↦ elim (either (matches p x)) [
        | inl m ↦ simp (b, m)
        | inr m ↦ simp (b, m)
      ]
      | inl b ↦ elim (either (matches p x)) [
        | inl m ↦ absurd (clash (before x.key p) b (begins_not_before p x.key m))
        | inr m ↦ simp (b, m)
      ]
    ]

-- A row ahead of one up to the prefix's last row is up to there too.
pub up_to_falls : (p : List ℕ) (x y : Row) → ahead x y ≡ true → up_to p y ≡ true → up_to p x ≡ true
up_to_falls p x y a e =
    elim (either (before x.key p)) [
      | inl b ↦ or_l (before x.key p) _ b
      | inr b ↦ elim (or_one (before y.key p) _ e) [
        | inl c ↦ or_l (before x.key p) _ (key_ahead p x y a c)
        | inr m ↦ or_r (before x.key p) _ (elim (or_one (before x.key y.key) _ a) [
          | inl c ↦ begins_between p x.key y.key b c m
          | inr c ↦ rw (same_path x.key y.key (and_l _ _ c)) m
        ])
      ]
    ]
