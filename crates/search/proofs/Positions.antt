-- Rows by their position: in a list, in the buffers, and as a search gives it.
use Prim.Native.Nat.{ℕ, zero, suc, ◌≤◌, ◌<◌}
use mathlib.Core.Path.{◌≡◌, refl, sym, ap, ◌∙◌}
use mathlib.Core.Logic.{inl, inr}
use mathlib.Core.Bool.{Bool, true, false, ◌&&◌, ◌||◌}
use mathlib.Core.List.{List, [], ◌∷◌}
use Rattle.std.specs.Prelude.{Option, Some, None}
use native.Mathlib.Omega.{arith}
use lib.Dec.{eqb, ltb}
use lib.ListN.{length}
use lib.Seq.{drop-cons}
use Rattle.buffers.specs.Choices.{then_some}
use Rattle.buffers.specs.Lists.{all, same}
use Rattle.buffers.proofs.Tests.{either, and_l, and_r}
use Rattle.table.specs.Contents.{contents, WholeBlocks, spare_row, row_no}
use Rattle.table.specs.Layout.{row_at, rows_of, Holds}
use Rattle.blocks.proofs.Blocks.{block_block}
use Rattle.table.proofs.Held.{rows_length, row_at_lem, held_numbers, held_keys, held_rows, held_first, held_block, held_fit}
use Rattle.model.specs.Rows.{Row, before, ordered}
use Rattle.search.specs.Places.{leading, nth_row, found_if, key_place, current_in, version_place, version_in, place_found}
use Rattle.table.specs.Searching.{Searchable}
use Rattle.std.specs.Prelude.{Result}
use Rattle.std.specs.Prelude.{Ok, Err}

-- ## In a list

pub no_row : (i : ℕ) (y : Row) → nth_row [] i ≡ Some y → ⊥
no_row zero y f = let z : ◌≡◌ {A = ℕ} 0 1 = cc in omega arith
no_row (suc i) y f = let z : ◌≡◌ {A = ℕ} 0 1 = cc in omega arith

-- What all rows pass, the row at a position passes.
pub all_row : (p : Row → Bool) (xs : List Row) (i : ℕ) (y : Row) → all p xs ≡ true → nth_row xs i ≡ Some y → p y ≡ true
all_row p [] i y e f = absurd (no_row i y f)
all_row p (x ∷ xs) zero y e f = let g : x ≡ y = cc in rw g at (and_l (p x) _ e)
all_row p (x ∷ xs) (suc i) y e f = all_row p xs i y (and_r (p x) _ e) f

pub row_below : (xs : List Row) (i : ℕ) (y : Row) → nth_row xs i ≡ Some y → i < length xs
row_below [] i y f = absurd (no_row i y f)
row_below (x ∷ xs) zero y f = omega arith
row_below (x ∷ xs) (suc i) y f = omega (arith, row_below xs i y f)

pub row_there : (xs : List Row) (i : ℕ) → i < length xs → nth_row xs i ≡ Some (row_no xs i)
row_there xs i h = rw (drop-cons xs i spare_row h)

-- ## In the buffers

pub rows_row : (n b : List ℕ) (u i : ℕ) → i < u → nth_row (rows_of n b u) i ≡ Some (row_at n b i)
rows_row n b u i h = rw (drop-cons (rows_of n b u) i (row_at n b i) (rw (rows_length n b u) h)) (ap Some (sym (row_at_lem n b u i (row_at n b i) h)))

-- Buffers that hold ordered rows can be searched.
pub holds_searchable : {c : ℕ} {xs : List Row} {n b : List ℕ} → Holds c xs n b → ordered xs ≡ true → (u : ℕ) → u ≡ length xs → Searchable n b u
holds_searchable {c} {xs} {n} {b} h o u e =
    record {
      numbers_fit = omega (arith, held_numbers h, h.room);
      keys_have_room = omega (arith, held_keys h, h.room);
      lengths = λ i g. held_first h i (row_at [] [] 0) (omega arith);
      in_order = rw (e, held_rows h) o;
    }

-- Their blocks are whole.
pub holds_whole : {c : ℕ} {xs : List Row} {n b : List ℕ} → Holds c xs n b → (u : ℕ) → u ≡ length xs → WholeBlocks (contents n b u)
holds_whole {c} {xs} {n} {b} h u e =
    record {
      whole = λ i g. let l : i < length xs = omega (arith, rows_length n b u) in rw (held_block h i (row_at [] [] 0) l) (block_block _ (held_fit h i (row_at [] [] 0) l));
    }

-- ## As a search gives it

pub leading_most : (q : Row → Bool) (xs : List Row) → leading q xs ≤ length xs
leading_most q [] = omega arith
leading_most q (x ∷ xs) =
    elim (either (q x)) [
      | inl t ↦ rw t (omega (arith, leading_most q xs))
      | inr t ↦ rw t (omega arith)
    ]

pub leading_as : (p q : Row → Bool) → ((x : Row) → p x ≡ q x) → (xs : List Row) → leading p xs ≡ leading q xs
leading_as p q f [] = refl
leading_as p q f (x ∷ xs) = rw (f x, leading_as p q f xs)

pub none_lead : (p q : Row → Bool) → ((x : Row) → q x ≡ true → p x ≡ false) → (xs : List Row) → all q xs ≡ true → leading p xs ≡ 0
none_lead p q f [] e = refl
none_lead p q f (x ∷ xs) e = rw (f x (and_l _ _ e))

module _ (p : Row → Bool) (xs : List Row) (m : ℕ) where
  pub place_if : place_found (found_if p xs m) ≡ m
  place_if =
      elim (either (then_some (nth_row xs m) false p)) [
        | inl t ↦ rw t
        | inr t ↦ rw t
      ]

  at_below : (i : ℕ) → found_if p xs m ≡ Ok i → i < length xs
  at_below i e = go (nth_row xs m) refl
    where
      go : (o : Option Row) → nth_row xs m ≡ o → i < length xs
      go None q = let f : Err m ≡ Ok i = rw q at e in let z : ◌≡◌ {A = ℕ} 0 1 = cc in absurd (omega arith)
      go (Some y) q = let f : i ≡ m = sym (ap place_found e) ∙ place_if in omega (arith, row_below xs m y q)

place_most : (p q : Row → Bool) (xs : List Row) (i : ℕ) → found_if p xs (leading q xs) ≡ Err i → i ≤ length xs
place_most p q xs i e = let f : i ≡ leading q xs = sym (ap place_found e) ∙ place_if p xs (leading q xs) in omega (arith, leading_most q xs)

-- What is found is a used row; what is not found belongs in front of a used row or right behind them.
module _ (xs : List Row) (k : List ℕ) (r : Result ℕ ℕ) (i : ℕ) where
  pub current_used : r ≡ current_in k xs → r ≡ Ok i → i < length xs
  unfolding current_in
  current_used e t = at_below (λ x. same x.key k) xs (key_place k xs) i (sym e ∙ t)

  pub current_free : r ≡ current_in k xs → r ≡ Err i → i ≤ length xs
  unfolding current_in key_place
  current_free e t = place_most (λ x. same x.key k) (λ x. before x.key k) xs i (sym e ∙ t)

  pub version_used : (v : ℕ) → r ≡ version_in k v xs → r ≡ Ok i → i < length xs
  unfolding version_in
  version_used v e t = at_below (λ x. same x.key k && eqb x.number v) xs (version_place k v xs) i (sym e ∙ t)

  pub version_free : (v : ℕ) → r ≡ version_in k v xs → r ≡ Err i → i ≤ length xs
  unfolding version_in version_place
  version_free v e t =
      place_most (λ x. same x.key k && eqb x.number v) (λ x. before x.key k || (same x.key k && ltb v x.number)) xs i (sym e ∙ t)
