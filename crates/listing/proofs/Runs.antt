-- A page's rows are one run of an ordered table.
use Prim.Native.Nat.{ℕ, zero, suc, ◌+◌, ◌-◌, ◌≤◌, ◌<◌, min, max}
use mathlib.Core.Path.{◌≡◌, refl, sym, ◌∙◌, ap}
use mathlib.Core.Logic.{inl, inr}
use mathlib.Core.Bool.{Bool, true, false, not, ◌&&◌}
use mathlib.Core.List.{List, [], ◌∷◌, ◌++◌}
use native.Mathlib.Omega.{arith}
use lib.ListN.{length, get_or, take, drop, length-drop}
use lib.Seq.{drop-drop, take-suc, take_all, get_or-drop}
use Rattle.buffers.specs.Lists.{keep, all}
use Rattle.buffers.proofs.Tests.{either, clash, and_l, and_r}
use Rattle.buffers.proofs.Lists.{keep_most, keep_every, keep_nothing, keep_as, keep_both, all_as, take_least}
use Rattle.model.specs.Rows.{Row, before, ahead, ordered}
use Rattle.model.specs.Requests.{page}
use Rattle.model.specs.Pages.{matches, comes_after, rows_after_place, page_rows}
use Rattle.model.proofs.Order.{ordered_drop}
use Rattle.model.proofs.Pages.{from_start}
use Rattle.table.specs.Contents.{spare_row, row_no}
use Rattle.search.specs.Places.{leading, key_place}
use Rattle.search.proofs.Positions.{none_lead}
use Rattle.search.proofs.Halving.{key_ahead}
use Rattle.listing.specs.Places.{place_after, page_start, up_to, prefix_end, page_end}
use Rattle.listing.proofs.Order.{before_first, after_falls, matches_up_to, up_to_falls}

-- ## A test that each row passes that is ahead of one that passes

module _ (t : Row → Bool) (falls : (x y : Row) → ahead x y ≡ true → t y ≡ true → t x ≡ true) where
  fails : (x y : Row) → t x ≡ false → ahead x y ≡ true → t y ≡ false
  fails x y f a =
      elim (either (t y)) [
        | inl e ↦ absurd (clash (t x) (falls x y a e) f)
        | inr e ↦ e
      ]

  failing : (x : Row) → t x ≡ false → (xs : List Row) → all (ahead x) xs ≡ true → all (λ y. not (t y)) xs ≡ true
  failing x f = all_as (ahead x) (λ y. not (t y)) (λ y a. rw (fails x y f a))

  -- The rows that pass stand in front, those that fail behind them.
  keep_front : (xs : List Row) → ordered xs ≡ true → keep t xs ≡ take (leading t xs) xs
  keep_front [] o = refl
  keep_front (x ∷ xs) o =
      elim (either (t x)) [
        | inl e ↦ rw e (ap (λ (l : List Row). x ∷ l) (keep_front xs (and_r (all (ahead x) xs) _ o)))
        | inr e ↦ rw e (keep_nothing t xs (failing x e xs (and_l _ _ o)))
      ]

  keep_behind : (xs : List Row) → ordered xs ≡ true → keep (λ x. not (t x)) xs ≡ drop (leading t xs) xs
  keep_behind [] o = refl
  keep_behind (x ∷ xs) o =
      elim (either (t x)) [
        | inl e ↦ rw e (keep_behind xs (and_r (all (ahead x) xs) _ o))
        | inr e ↦ rw e (ap (λ (l : List Row). x ∷ l) (keep_every (λ y. not (t y)) xs (failing x e xs (and_l _ _ o))))
      ]

  leading_drop : (i : ℕ) (xs : List Row) → ordered xs ≡ true → leading t (drop i xs) ≡ leading t xs - i
  leading_drop zero xs o = omega arith
  leading_drop (suc i) [] o = omega arith
  leading_drop (suc i) (x ∷ xs) o =
      let more = leading_drop i xs (and_r (all (ahead x) xs) _ o) in
      elim (either (t x)) [
        | inl e ↦ rw e (omega arith)
        | inr e ↦ rw e (omega (arith, none_lead t (ahead x) (λ y. fails x y e) xs (and_l _ _ o)))
      ]

-- ## A page

not_not : (b : Bool) → b ≡ not (not b)
not_not true = refl
not_not false = refl

module _ (p k : List ℕ) (v : ℕ) (xs : List Row) (o : ordered xs ≡ true) where
  rows_after_lem : keep (comes_after k v) xs ≡ drop (place_after k v xs) xs
  unfolding place_after
  rows_after_lem =
      keep_as (comes_after k v) (λ x. not (not (comes_after k v x))) (λ x. not_not (comes_after k v x)) xs
      ∙ keep_behind (λ x. not (comes_after k v x)) (after_falls k v) xs o

  -- Those whose keys are not before the prefix, from a place on.
  rows_above : (a : ℕ) → keep (λ x. not (before x.key p)) (drop a xs) ≡ drop (max (key_place p xs) a) xs
  unfolding key_place
  rows_above a =
      let q : a + (key_place p xs - a) ≡ max (key_place p xs) a = omega arith in
      keep_behind (λ x. before x.key p) (key_ahead p) (drop a xs) (ordered_drop a xs o)
      ∙ rw (leading_drop (λ x. before x.key p) (key_ahead p) a xs o) (drop-drop (key_place p xs - a) a xs ∙ ap (λ (i : ℕ). drop i xs) q)

  -- The matching rows after a place are the run from the page's start to the prefix's end.
  rows_run : rows_after_place p k v xs ≡ take (prefix_end p xs - page_start p k v xs) (drop (page_start p k v xs) xs)
  unfolding page_start prefix_end
  rows_run =
      let s = page_start p k v xs in
      let above : Row → Bool = λ x. not (before x.key p) in
      keep_both (matches p) (comes_after k v) xs
      ∙ keep_as (matches p) (λ x. up_to p x && above x) (matches_up_to p) (keep (comes_after k v) xs)
      ∙ keep_both (up_to p) above (keep (comes_after k v) xs)
      ∙ ap (keep (up_to p)) (ap (keep above) rows_after_lem ∙ rows_above (place_after k v xs))
      ∙ keep_front (up_to p) (up_to_falls p) (drop s xs) (ordered_drop s xs o)
      ∙ rw (leading_drop (up_to p) (up_to_falls p) s xs o)

  -- A page's rows are those from its start to its end.
  pub page_run : (count start end : ℕ) → start ≡ page_start p k v xs → end ≡ page_end p start count xs
      → take (end - start) (drop start xs) ≡ page_rows (page p k v count) xs
  unfolding page_end
  page_run count start end e f =
      let q : end - start ≡ min count (prefix_end p xs - start) = omega arith in
      rw q (take_least count (prefix_end p xs - start) (drop start xs) ∙ rw e (ap (take count) (sym rows_run)))

-- ## All matching rows

-- The page from the start starts at the prefix's place.
first_place : (p : List ℕ) (xs : List Row) → page_start p [] 0 xs ≡ key_place p xs
unfolding page_start place_after
first_place p xs = let z = go xs in omega arith
  where
    go : (xs : List Row) → leading (λ x. not (comes_after [] 0 x)) xs ≡ 0
    go [] = refl
    go (x ∷ xs) = rw (before_first [] x)

-- They are those from there to the end of a page that they all fit.
pub prefix_run : (p : List ℕ) (xs : List Row) (count start end : ℕ) → length xs ≡ count → ordered xs ≡ true → start ≡ key_place p xs → end ≡ page_end p start count xs
    → take (end - start) (drop start xs) ≡ keep (matches p) xs
prefix_run p xs count start end l o e f =
    page_run p [] 0 xs o count start end (e ∙ sym (first_place p xs)) f ∙ ap (take count) (from_start p xs)
    ∙ take_all count (keep (matches p) xs) (omega (arith, keep_most (matches p) xs))

-- ## Row by row

-- the rows from start on and before i
abbrev pub run : List Row → ℕ → ℕ → List Row
run xs start i = take (i - start) (drop start xs)

-- A row more at the end.
pub run_next : (xs : List Row) (start i : ℕ) → start ≤ i → i < length xs → run xs start (i + 1) ≡ run xs start i ++ row_no xs i ∷ []
run_next xs start i h l =
    let q : i + 1 - start ≡ suc (i - start) = omega arith in
    let s : start + (i - start) ≡ i = omega arith in
    let here : get_or (drop start xs) (i - start) spare_row ≡ row_no xs i = get_or-drop start xs (i - start) spare_row ∙ rw s in
    let below : i - start < length (drop start xs) = rw (length-drop start xs) (omega arith) in
    rw q (take-suc (drop start xs) (i - start) spare_row below ∙ ap (λ (x : Row). run xs start i ++ x ∷ []) here)
