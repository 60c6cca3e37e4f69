-- Version numbers that all differ: each has at most one row.
use Prim.Native.Nat.{ℕ}
use mathlib.Core.Path.{◌≡◌, refl, sym, ◌∙◌, ap, subst}
use mathlib.Core.Logic.{◌⊎◌, inl, inr}
use mathlib.Core.Bool.{true, not}
use mathlib.Core.List.{List, [], ◌∷◌, ◌++◌, cons≢nil, tail-eq_of_cons-eq}
use lib.Dec.{eqb}
use borrow.Author.Tests.{eqb-true, eqb-false, eq-eqb, ne_eqb, not-true}
use Rattle.buffers.specs.Lists.{all}
use Rattle.buffers.proofs.Tests.{either, and_i, and_l, and_r}
use Rattle.buffers.proofs.Lists.{keep_nothing, all_middle}
use Rattle.model.specs.Rows.{Row}
use Rattle.model.specs.LockClause.{versions, distinct}
use Rattle.model.proofs.Versions.{cons_none}

-- The table has at most one row of each number.
abbrev AtMostOnce : List Row → Type 0
AtMostOnce xs = (v : ℕ) → (versions v xs ≡ []) ⊎ ((x : Row) × (versions v xs ≡ x ∷ []))

pub differ_once : (xs : List Row) → distinct xs ≡ true → AtMostOnce xs
differ_once [] d v = inl refl
differ_once (x ∷ xs) d v =
    elim (either (eqb x.number v)) [
      | inl e ↦
          let others : all (λ y. not (eqb y.number v)) xs ≡ true = subst (λ (n : ℕ). all (λ y. not (eqb y.number n)) xs ≡ true) (eqb-true x.number v e) (and_l _ _ d) in
          inr (x, rw e (ap (λ (l : List Row). x ∷ l) (keep_nothing (λ y. eqb y.number v) xs others)))
      | inr e ↦ rw e (differ_once xs (and_r (all (λ y. not (eqb y.number x.number)) xs) _ d) v)
    ]

-- Each row stands alone with its number.
pub differ_alone : (xs ys : List Row) (x : Row) → distinct (xs ++ x ∷ ys) ≡ true → versions x.number (xs ++ x ∷ ys) ≡ x ∷ []
differ_alone [] ys x d = rw (eq-eqb x.number x.number refl) (ap (λ (l : List Row). x ∷ l) (keep_nothing (λ y. eqb y.number x.number) ys (and_l _ _ d)))
differ_alone (z ∷ xs) ys x d =
    let other = eqb-false x.number z.number (not-true _ (all_middle (λ y. not (eqb y.number z.number)) xs x ys (and_l _ _ d))) in
    rw (ne_eqb z.number x.number (λ q. other (sym q)))
    (differ_alone xs ys x (and_r (all (λ y. not (eqb y.number z.number)) (xs ++ x ∷ ys)) _ d))

none_numbered : (v : ℕ) (xs : List Row) → versions v xs ≡ [] → all (λ y. not (eqb y.number v)) xs ≡ true
none_numbered v [] e = refl
none_numbered v (x ∷ xs) e =
    let other = cons_none v x xs e in
    rw other.0 (none_numbered v xs other.1)

rest_once : (x : Row) (xs : List Row) → AtMostOnce (x ∷ xs) → versions x.number xs ≡ []
rest_once x xs h =
    let here : versions x.number (x ∷ xs) ≡ x ∷ versions x.number xs = rw (eq-eqb x.number x.number refl) in
    elim (h x.number) [
      | inl e ↦ absurd (cons≢nil (sym here ∙ e))
      | inr e ↦ tail-eq_of_cons-eq (sym here ∙ e.1)
    ]

tail_once : (x : Row) (xs : List Row) → AtMostOnce (x ∷ xs) → AtMostOnce xs
tail_once x xs h v =
    elim (either (eqb x.number v)) [
      | inl e ↦ elim (h v) [
        | inl n ↦ absurd (cons≢nil (rw e at n))
        | inr n ↦ inl (tail-eq_of_cons-eq (rw e at n.1))
      ]
      | inr e ↦ rw e at (h v)
    ]

pub once_differ : (xs : List Row) → AtMostOnce xs → distinct xs ≡ true
once_differ [] h = refl
once_differ (x ∷ xs) h =
    and_i (all (λ y. not (eqb y.number x.number)) xs) _ (none_numbered x.number xs (rest_once x xs h)) (once_differ xs (tail_once x xs h))
