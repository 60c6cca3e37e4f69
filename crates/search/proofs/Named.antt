-- A search finds the row that a line names; the changes of that row, and of a new row, by position.
use Prim.Native.Nat.{ℕ, zero, suc}
use mathlib.Core.Path.{◌≡◌, refl, sym, ap, ◌∙◌}
use mathlib.Core.Logic.{inl, inr}
use mathlib.Core.Bool.{Bool, true, false, not, ◌&&◌, and-true}
use mathlib.Core.List.{List, [], ◌∷◌}
use Rattle.std.specs.Prelude.{Some, None}
use native.Mathlib.Omega.{arith}
use lib.Dec.{eqb}
use lib.ListN.{length, set}
use borrow.Author.Tests.{eqb-true, not-true}
use Rattle.buffers.specs.Choices.{then_some}
use Rattle.buffers.specs.Lists.{all, keep, first, change, same}
use Rattle.buffers.specs.Ranges.{Within}
use Rattle.buffers.proofs.Tests.{either, eqb_sym, clash, and_l, and_r, or_one}
use Rattle.buffers.proofs.Lists.{keep_every, all_as, first_none, first_as, same_path, same_sym}
use Rattle.model.specs.Rows.{Row, before, ahead, ordered}
use Rattle.model.specs.Requests.{Name, name, numbered}
use Rattle.model.specs.Effects.{row_of, same_version, is_named, insert_by_key}
use Rattle.model.proofs.Order.{before_other, version_row}
use Rattle.model.proofs.SoundRows.{version_refl, apart, others}
use Rattle.table.specs.Changes.{insert_at, remove_at}
use Rattle.search.specs.Places.{leading, nth_row, found_if, key_place, current_in, version_place, version_in, row_found, place_found}
use Rattle.std.specs.Prelude.{Result}
use Rattle.std.specs.Prelude.{Ok, Err}
use Rattle.search.proofs.Positions.{all_row, place_if, current_used, current_free}

-- ## The row that is found

-- A row more in front.
found_next : (p : Row → Bool) (x : Row) (xs : List Row) (i : ℕ) → row_found (x ∷ xs) (found_if p (x ∷ xs) (suc i)) ≡ row_found xs (found_if p xs i)
found_next p x xs i =
    elim (either (then_some (nth_row xs i) false p)) [
      | inl t ↦ rw t
      | inr t ↦ rw t
    ]

-- Behind the rows that pass q stands the first that passes p, if any does: a row that passes q does not pass p,
-- and behind one that passes neither there is none.
module _ (p q : Row → Bool) (not_both : (x : Row) → q x ≡ true → p x ≡ false)
    (none_behind : (x y : Row) → ahead x y ≡ true → q x ≡ false → p x ≡ false → p y ≡ false) where
  found_first : (xs : List Row) → ordered xs ≡ true → row_found xs (found_if p xs (leading q xs)) ≡ first p xs
  found_first [] o = refl
  found_first (x ∷ xs) o =
      elim (either (q x)) [
        | inl t ↦ rw (t, not_both x t) (found_next p x xs (leading q xs) ∙ found_first xs (and_r (all (ahead x) xs) _ o))
        | inr t ↦ elim (either (p x)) [
          | inl u ↦ simp (t, u)
          | inr u ↦ simp (t, u) (sym (first_none p xs (all_as (ahead x) (λ y. not (p y)) (λ y d. rw (none_behind x y d t u)) xs (and_l _ _ o))))
        ]
      ]

-- A key's current version is the row that the key alone names.
pub current_row : (k : List ℕ) (xs : List Row) → ordered xs ≡ true → row_found xs (current_in k xs) ≡ row_of xs (name k None)
unfolding current_in key_place
current_row k xs o =
    found_first (λ x. same x.key k) (λ x. before x.key k) (λ x. before_other x.key k) none_behind xs o
    ∙ first_as (λ x. same x.key k) (λ x. same k x.key && true) (λ x. same_sym x.key k ∙ sym (and-true (same k x.key))) xs
  where
    none_behind : (x y : Row) → ahead x y ≡ true → before x.key k ≡ false → same x.key k ≡ false → same y.key k ≡ false
    none_behind x y d e f =
        elim (either (same y.key k)) [
          | inl s ↦ elim (or_one (before x.key y.key) _ d) [
            | inl b ↦ absurd (clash (before x.key k) (rw (same_path y.key k s) at b) e)
            | inr b ↦ absurd (clash (same x.key k) (rw (same_path y.key k s) at (and_l (same x.key y.key) _ b)) f)
          ]
          | inr s ↦ s
        ]

-- A key's version is the row that the key and the version number name.
pub version_row_lem : (k : List ℕ) (v : ℕ) (xs : List Row) → ordered xs ≡ true → row_found xs (version_in k v xs) ≡ row_of xs (name k (Some (numbered v)))
unfolding version_in version_place
version_row_lem k v xs o =
    found_first (λ x. same x.key k && eqb x.number v) (λ x. ahead x (version_row k v)) (λ x e. (apart x (version_row k v) e).0) none_behind xs o
    ∙ first_as (λ x. same x.key k && eqb x.number v) (λ x. same k x.key && eqb v x.number) (λ x. rw (same_sym x.key k, eqb_sym x.number v)) xs
  where
    none_behind : (x y : Row) → ahead x y ≡ true → ahead x (version_row k v) ≡ false → (same x.key k && eqb x.number v) ≡ false → (same y.key k && eqb y.number v) ≡ false
    none_behind x y d e f =
        elim (either (same y.key k && eqb y.number v)) [
          | inl s ↦
              let g : ahead x (version_row k v) ≡ true = rw (same_path y.key k (and_l _ _ s), eqb-true y.number v (and_r (same y.key k) _ s)) at d in
              absurd (clash (ahead x (version_row k v)) g e)
          | inr s ↦ s
        ]

-- ## A new row

pub insert_place : (x : Row) (xs : List Row) → insert_by_key x xs ≡ insert_at (key_place x.key xs) x xs
unfolding key_place
insert_place x [] = refl
insert_place x (y ∷ ys) =
    elim (either (before y.key x.key)) [
      | inl t ↦ rw t (ap (λ (l : List Row). y ∷ l) (insert_place x ys))
      | inr t ↦ rw t
    ]

-- Found or not, the search for a key's current version ends at the key's place.
pub current_place : (k : List ℕ) (xs : List Row) → place_found (current_in k xs) ≡ key_place k xs
unfolding current_in
current_place k xs = place_if (λ x. same x.key k) xs (key_place k xs)

-- So the place that it gives is the key's, within the rows or right behind them.
module _ (xs : List Row) (k : List ℕ) (r : Result ℕ ℕ) (i : ℕ) (e : r ≡ current_in k xs) where
  here : place_found r ≡ i → i ≡ key_place k xs
  here q = sym q ∙ ap place_found e ∙ current_place k xs

  pub place_at : r ≡ Ok i → Within i (key_place k xs) (length xs)
  place_at t = record { is = here (ap place_found t); most = omega (arith, current_used xs k r i e t) }

  pub place_free : r ≡ Err i → Within i (key_place k xs) (length xs)
  place_free t = record { is = here (ap place_found t); most = current_free xs k r i e t }

pub ruleset place_cases = (place_at, place_free)

-- ## A row that is named, by its position

change_none : (x : Row) (f : Row → Row) (xs : List Row) → all (λ y. not (same_version x y)) xs ≡ true → change (same_version x) f xs ≡ xs
change_none x f [] e = refl
change_none x f (y ∷ ys) e =
    rw (not-true (same_version x y) (and_l _ _ e)) (ap (λ (l : List Row). y ∷ l) (change_none x f ys (and_r (not (same_version x y)) _ e)))

change_at : (x : Row) (f : Row → Row) (xs : List Row) (i : ℕ) → ordered xs ≡ true → nth_row xs i ≡ Some x → change (same_version x) f xs ≡ set xs i (f x)
change_at x f [] i o e = refl
change_at x f (y ∷ ys) zero o e =
    let q : x ≡ y = cc in
    let here : same_version x y ≡ true = rw (sym q) (version_refl x) in
    rw (here, change_none x f ys (rw (sym q) at (others y ys (and_l _ _ o))), q)
change_at x f (y ∷ ys) (suc i) o e =
    let here : same_version x y ≡ false = (apart y x (all_row (ahead y) ys i x (and_l _ _ o) e)).1 in
    rw here (ap (λ (l : List Row). y ∷ l) (change_at x f ys i (and_r (all (ahead y) ys) _ o) e))

keep_at : (x : Row) (xs : List Row) (i : ℕ) → ordered xs ≡ true → nth_row xs i ≡ Some x → keep (λ y. not (same_version x y)) xs ≡ remove_at i xs
keep_at x [] zero o e = refl
keep_at x [] (suc i) o e = refl
keep_at x (y ∷ ys) zero o e =
    let q : x ≡ y = cc in
    let here : same_version x y ≡ true = rw (sym q) (version_refl x) in
    rw here (keep_every (λ z. not (same_version x z)) ys (rw (sym q) at (others y ys (and_l _ _ o))))
keep_at x (y ∷ ys) (suc i) o e =
    let here : same_version x y ≡ false = (apart y x (all_row (ahead y) ys i x (and_l _ _ o) e)).1 in
    rw here (ap (λ (l : List Row). y ∷ l) (keep_at x ys i (and_r (all (ahead y) ys) _ o) e))

module _ (xs : List Row) (n : Name) (i : ℕ) (x : Row) (o : ordered xs ≡ true) (e : row_of xs n ≡ Some x) (p : nth_row xs i ≡ Some x) where
  -- A change of the row that a line names is made at its position.
  pub change_named : (f : Row → Row) → change (is_named xs n) f xs ≡ set xs i (f x)
  change_named f = let h : change (λ y. is_named xs n y) f xs ≡ set xs i (f x) = simp e (change_at x f xs i o p) in h

  -- The row that a line names is removed at its position.
  pub remove_named : keep (λ y. not (is_named xs n y)) xs ≡ remove_at i xs
  remove_named = simp e (keep_at x xs i o p)
