-- What a search finds, by where halving ends.
use Prim.Native.Nat.{ℕ, ◌<◌}
use mathlib.Core.Path.{◌≡◌, refl}
use mathlib.Core.Logic.{inl, inr}
use mathlib.Core.Bool.{true, false, ◌&&◌, and-false}
use mathlib.Core.List.{List}
use native.Mathlib.Omega.{arith}
use lib.Dec.{eqb, ltb}
use lib.ListN.{length, drop_of_length-le}
use borrow.Author.Tests.{eqb-true, ne_eqb, le-ltb, ltb-true, ltb-false}
use Rattle.buffers.specs.Lists.{same}
use Rattle.buffers.proofs.Lists.{same_path}
use Rattle.buffers.proofs.Tests.{either, and_l, and_r, or_one}
use Rattle.model.specs.Rows.{Row, before, ahead, ordered}
use Rattle.model.proofs.Order.{ahead_trans, version_row}
use Rattle.table.specs.Contents.{row_no}
use Rattle.std.specs.declared.cmp.Ordering.{Ordering}
use Rattle.std.specs.declared.cmp.Ordering.TheVariants.{Less, Equal, Greater}
use Rattle.std.specs.Prelude.{Result, Ok, Err}
use Rattle.search.specs.Keys.{is_order, is_version_order}
use Rattle.search.specs.Halving.{Halved, Ended}
use Rattle.search.specs.Places.{key_place, current_in, version_place, version_in, place_found}
use Rattle.search.proofs.Comparing.{same_one, after_one, after_other}
use Rattle.search.proofs.Positions.{row_there}
use Rattle.search.proofs.Halving.{leading_stops, leading_reaches, key_ahead, halved_leading}

-- ## A key's first row

module _ (xs : List Row) (k : List ℕ) (o : ordered xs ≡ true) (answers : ℕ → Ordering → Type 0) (says : (i : ℕ) (r : Ordering) → answers i r → is_order r (row_no xs i).key k ≡ true)
    (used : ℕ) (l : used ≡ length xs) where
  current_place : (r : Result ℕ ℕ) → Halved answers 0 used r → place_found r ≡ key_place k xs
  unfolding key_place
  current_place =
      halved_leading (λ x. before x.key k) (key_ahead k) xs o answers (λ i a. says i Less a) (λ i a. same_one (row_no xs i).key k (says i Equal a))
      (λ i a. after_one (row_no xs i).key k (says i Greater a)) used l

  pub current_halved : (r : Result ℕ ℕ) → Halved answers 0 used r → r ≡ current_in k xs
  unfolding current_in
  current_halved (Ok i) w =
      let h : i < length xs = omega (arith, w.there i refl) in
      rw (← current_place (Ok i) w, row_there xs i h, says i Equal (w.found i refl))
  current_halved (Err i) w =
      elim (either (ltb i used)) [
        | inl t ↦
            let h : i < length xs = omega (arith, ltb-true i used t) in
            rw (← current_place (Err i) w, row_there xs i h, after_other (row_no xs i).key k (says i Greater (w.missing i refl (ltb-true i used t))))
        | inr t ↦ rw (← current_place (Err i) w, drop_of_length-le xs {i = i} (omega (arith, ltb-false i used t)))
      ]

-- ## A key's version

module _ (x : Row) (k : List ℕ) (v : ℕ) where
  ahead_no_more : is_version_order Equal x k v ≡ true → ahead x (version_row k v) ≡ false
  ahead_no_more e =
      let s = and_l (same x.key k) _ e in
      rw (same_one x.key k s, s) (le-ltb v x.number (omega (arith, eqb-true x.number v (and_r (same x.key k) _ e))))

  ahead_never : is_version_order Greater x k v ≡ true → ahead x (version_row k v) ≡ false
  ahead_never e =
      elim (or_one (before k x.key) _ e) [
        | inl b ↦ rw (after_one x.key k b, after_other x.key k b)
        | inr b ↦
            let s = and_l (same x.key k) _ b in
            rw (same_one x.key k s, s) (le-ltb v x.number (omega (arith, ltb-true x.number v (and_r (same x.key k) _ b))))
      ]

  not_it : is_version_order Greater x k v ≡ true → (same x.key k && eqb x.number v) ≡ false
  not_it e =
      elim (or_one (before k x.key) _ e) [
        | inl b ↦ rw (after_other x.key k b)
        | inr b ↦
            let d : eqb x.number v ≡ false = ne_eqb x.number v (λ q. omega (arith, q, ltb-true x.number v (and_r (same x.key k) _ b))) in
            rw (d, and-false (same x.key k))
      ]

  -- What is ahead of that version's row is ahead of that version.
  ahead_it : is_version_order Equal x k v ≡ true → (y : Row) → ahead y x ≡ true → ahead y (version_row k v) ≡ true
  ahead_it e y d = rw (same_path x.key k (and_l (same x.key k) _ e), eqb-true x.number v (and_r (same x.key k) _ e)) at d

module _ (xs : List Row) (k : List ℕ) (v : ℕ) (o : ordered xs ≡ true) (answers : ℕ → Ordering → Type 0)
    (says : (i : ℕ) (r : Ordering) → answers i r → is_version_order r (row_no xs i) k v ≡ true) (used : ℕ) (l : used ≡ length xs) where
  version_at : (r : Result ℕ ℕ) → Ended false answers 0 used r → place_found r ≡ version_place k v xs
  unfolding version_place
  version_at (Ok i) w =
      let h : i < length xs = omega (arith, w.there i refl) in
      let e = says i Equal (w.found i refl) in
      omega (
        arith,
        leading_reaches (λ x. ahead x (version_row k v)) xs i (row_no xs i) o (row_there xs i h) (ahead_it (row_no xs i) k v e),
        leading_stops (λ x. ahead x (version_row k v)) xs i (row_no xs i) (row_there xs i h) (ahead_no_more (row_no xs i) k v e),
      )
  version_at (Err i) w =
      halved_leading (λ x. ahead x (version_row k v)) (λ x y. ahead_trans x y (version_row k v)) xs o answers (λ i a. says i Less a) (λ i a. ahead_no_more (row_no xs i) k v (says i Equal a))
      (λ i a. ahead_never (row_no xs i) k v (says i Greater a)) used l (Err i) (w.halved refl)

  pub version_halved : (r : Result ℕ ℕ) → Ended false answers 0 used r → r ≡ version_in k v xs
  unfolding version_in
  version_halved (Ok i) w =
      let h : i < length xs = omega (arith, w.there i refl) in
      rw (← version_at (Ok i) w, row_there xs i h, says i Equal (w.found i refl))
  version_halved (Err i) w =
      elim (either (ltb i used)) [
        | inl t ↦
            let h : i < length xs = omega (arith, ltb-true i used t) in
            rw (← version_at (Err i) w, row_there xs i h, not_it (row_no xs i) k v (says i Greater ((w.halved refl).missing i refl (ltb-true i used t))))
        | inr t ↦ rw (← version_at (Err i) w, drop_of_length-le xs {i = i} (omega (arith, ltb-false i used t)))
      ]
