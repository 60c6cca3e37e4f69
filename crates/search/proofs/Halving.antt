-- Where the rows that pass a test end, and what one row of an ordered table says of that place.
use Prim.Native.Nat.{ℕ, zero, suc, ◌+◌, ◌-◌, ◌*◌, ◌≤◌, ◌<◌}
use mathlib.Core.Path.{◌≡◌, refl}
use mathlib.Core.Logic.{inl, inr}
use mathlib.Core.Bool.{Bool, true, false}
use mathlib.Core.List.{List, [], ◌∷◌}
use Rattle.std.specs.Prelude.{Result, Ok, Err, Some}
use native.Mathlib.Omega.{arith}
use lib.Dec.{ltb}
use lib.ListN.{length, get_or, take, drop, length-take, length-drop}
use borrow.Author.Tests.{ltb-true, ltb-false}
use Rattle.buffers.specs.Lists.{all}
use Rattle.buffers.proofs.Tests.{either, and_l, and_r, or_one}
use Rattle.buffers.proofs.Lists.{same_path}
use Rattle.table.specs.Places.{key_at}
use Rattle.table.proofs.Reading.{key_as_row, keys_there, length_there}
use Rattle.blocks.specs.Blocks.{key_in}
use Rattle.buffers.proofs.Parts.{part_cut, part_first}
use Rattle.model.specs.Rows.{Row, before, ahead, ordered}
use Rattle.model.proofs.Order.{before_trans}
use Rattle.search.specs.Places.{leading, nth_row, place_found}
use Rattle.table.specs.Searching.{Searchable}
use Rattle.std.specs.declared.cmp.Ordering.{Ordering}
use Rattle.search.specs.Keys.{is_order}
use Rattle.std.specs.declared.cmp.Ordering.TheVariants.{Less, Equal, Greater}
use Rattle.search.specs.Halving.{Halved}
use Rattle.table.specs.Contents.{Contents, contents, row_no}
use Rattle.search.proofs.Positions.{no_row, all_row, leading_most, row_there}

-- ## The rows that pass a test

module _ (q : Row → Bool) where
  pub leading_stops : (xs : List Row) (i : ℕ) (y : Row) → nth_row xs i ≡ Some y → q y ≡ false → leading q xs ≤ i
  leading_stops [] i y f e = omega arith
  leading_stops (x ∷ xs) zero y f e = let g : x ≡ y = cc in rw (g, e) (omega arith)
  leading_stops (x ∷ xs) (suc i) y f e =
      elim (either (q x)) [
        | inl t ↦ rw t (omega (arith, leading_stops xs i y f e))
        | inr t ↦ rw t (omega arith)
      ]

  -- A test that each row passes that is ahead of one that passes.
  pub leading_passes : ((x y : Row) → ahead x y ≡ true → q y ≡ true → q x ≡ true)
      → (xs : List Row) (i : ℕ) (y : Row) → ordered xs ≡ true → nth_row xs i ≡ Some y → q y ≡ true → i < leading q xs
  leading_passes m [] i y o f e = absurd (no_row i y f)
  leading_passes m (x ∷ xs) zero y o f e = let g : x ≡ y = cc in rw (g, e) (omega arith)
  leading_passes m (x ∷ xs) (suc i) y o f e =
      let t : q x ≡ true = m x y (all_row (ahead x) xs i y (and_l _ _ o) f) e in
      rw t (omega (arith, leading_passes m xs i y (and_r (all (ahead x) xs) _ o) f e))

  -- All rows ahead of one that pass stand in front of it.
  pub leading_reaches : (xs : List Row) (i : ℕ) (y : Row) → ordered xs ≡ true → nth_row xs i ≡ Some y → ((x : Row) → ahead x y ≡ true → q x ≡ true) → i ≤ leading q xs
  leading_reaches [] i y o f m = absurd (no_row i y f)
  leading_reaches (x ∷ xs) zero y o f m = omega arith
  leading_reaches (x ∷ xs) (suc i) y o f m =
      let t : q x ≡ true = m x (all_row (ahead x) xs i y (and_l _ _ o) f) in
      rw t (omega (arith, leading_reaches xs i y (and_r (all (ahead x) xs) _ o) f m))

-- ## A table's rows

pub key_ahead : (k : List ℕ) (x y : Row) → ahead x y ≡ true → before y.key k ≡ true → before x.key k ≡ true
key_ahead k x y d e =
    elim (or_one (before x.key y.key) _ d) [
      | inl b ↦ before_trans x.key y.key k b e
      | inr b ↦ rw (same_path x.key y.key (and_l _ _ b)) e
    ]

-- what holds at each turn: what is in front of `low` stands before what is sought, and what is at `high` does not
pub record Between (answers : ℕ → Ordering → Type 0) (start end low high : ℕ) (found : Bool) : Type 0 where
  pub from : start ≤ low
  pub span : low ≤ high
  pub to : high ≤ end
  pub passed : (i : ℕ) → start ≤ i → i + 1 ≡ low → answers i Less
  pub there : found ≡ true → high < end
  pub hit : found ≡ true → answers high Equal
  pub missed : found ≡ false → high < end → answers high Greater

-- what it tells of the rows that pass a test
module _ (q : Row → Bool) (falls : (x y : Row) → ahead x y ≡ true → q y ≡ true → q x ≡ true) (xs : List Row) (o : ordered xs ≡ true) (answers : ℕ → Ordering → Type 0)
    (passes : (i : ℕ) → answers i Less → q (row_no xs i) ≡ true) (start end : ℕ) (r : Result ℕ ℕ) (l : end ≤ length xs) (w : Halved answers start end r) where
  pub halved_most : start < place_found r → place_found r ≤ leading q xs
  halved_most h =
      let i = place_found r - 1 in
      let here : i + 1 ≡ place_found r = omega arith in
      let below : i < length xs = omega (arith, w.to) in
      let e : q (row_no xs i) ≡ true = passes i (w.passed i (omega arith) here) in
      omega (arith, leading_passes q falls xs i (row_no xs i) o (row_there xs i below) e)

-- from the first row to the last
module _ (q : Row → Bool) (falls : (x y : Row) → ahead x y ≡ true → q y ≡ true → q x ≡ true) (xs : List Row) (o : ordered xs ≡ true) (answers : ℕ → Ordering → Type 0)
    (passes : (i : ℕ) → answers i Less → q (row_no xs i) ≡ true) (same : (i : ℕ) → answers i Equal → q (row_no xs i) ≡ false) (fails : (i : ℕ) → answers i Greater → q (row_no xs i) ≡ false)
    (end : ℕ) (l : end ≡ length xs) where
  in_front : (r : Result ℕ ℕ) → Halved answers 0 end r → place_found r ≤ leading q xs
  in_front r w =
      elim (either (ltb 0 (place_found r))) [
        | inl u ↦ halved_most q falls xs o answers passes 0 end r (omega arith) w (ltb-true 0 (place_found r) u)
        | inr u ↦ omega (arith, ltb-false 0 (place_found r) u)
      ]

  pub halved_leading : (r : Result ℕ ℕ) → Halved answers 0 end r → place_found r ≡ leading q xs
  halved_leading (Ok i) w =
      let h : i < length xs = omega (arith, w.there i refl) in
      omega (arith, in_front (Ok i) w, leading_stops q xs i (row_no xs i) (row_there xs i h) (same i (w.found i refl)))
  halved_leading (Err i) w =
      elim (either (ltb i end)) [
        | inl t ↦
            let h : i < length xs = omega (arith, ltb-true i end t) in
            omega (arith, in_front (Err i) w, leading_stops q xs i (row_no xs i) (row_there xs i h) (fails i (w.missing i refl (ltb-true i end t))))
        | inr t ↦ omega (arith, in_front (Err i) w, leading_most q xs, ltb-false i end t)
      ]

-- ## A row's block

-- The key in a row's block is that row's.
pub order_there : (n b : List ℕ) (u : ℕ) (t : Contents) → contents n b u ≡ t → Searchable n b u → (at : ℕ) → at < length t.rows
    → (o : Ordering) (k : List ℕ) → is_order o (key_in (take (64 * at + 64 - 64 * at) (drop (64 * at) b))) k ≡ true → is_order o (row_no t.rows at).key k ≡ true
order_there n b u t e s at h o k w =
    let q : key_at b at ≡ (row_no t.rows at).key = key_as_row n b u t e s at h in
    rw (← q) (rw (part_cut b (64 * at) 64) at w)

-- It is there.
pub block_there : (n b : List ℕ) (u : ℕ) (t : Contents) → contents n b u ≡ t → Searchable n b u → (at : ℕ) → at < length t.rows
    → (64 ≤ length (take (64 * at + 64 - 64 * at) (drop (64 * at) b))) × (get_or (take (64 * at + 64 - 64 * at) (drop (64 * at) b)) 0 0 ≤ 63)
block_there n b u t e s at h =
    let room = keys_there n b u t e s at h in
    (rw (part_cut b (64 * at) 64) (omega (arith, length-take 64 (drop (64 * at) b), length-drop (64 * at) b)), rw (part_cut b (64 * at) 64, ← part_first b (64 * at) 64 (omega arith)) (length_there n b u t e s at h))
