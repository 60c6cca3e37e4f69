-- Laws by case of finding a page's start and end.
use Prim.Native.Nat.{ℕ, suc, ◌+◌, ◌-◌, ◌≤◌, ◌<◌, min, max}
use mathlib.Core.Path.{◌≡◌, refl, sym, ◌∙◌, ap}
use mathlib.Core.Logic.{◌⊎◌, inl, inr}
use mathlib.Core.Bool.{Bool, true, false, not, ◌&&◌, false≢true}
use mathlib.Core.List.{List, [], ◌∷◌}
use lib.ListN.{length}
use native.Mathlib.Omega.{arith}
use mir.Syntax.{w64}
use mir.Val.{Fits}
use native.Mathlib.Numerals.{add-one}
use lib.Dec.{eqb, leb, ltb}
use borrow.Author.Tests.{eqb-true, eqb-false, ne_eqb, leb-true, ltb-true, ltb-false, lt-ltb, not-true}
use Rattle.buffers.specs.Choices.{then_some}
use Rattle.buffers.specs.Lists.{same, all}
use Rattle.buffers.specs.Ranges.{Within, Span}
use Rattle.buffers.proofs.Tests.{either, and_i, and_l, and_r, or_l, or_r, or_none}
use Rattle.buffers.proofs.Lists.{same_path, same_sym}
use Rattle.table.specs.Contents.{row_no}
use Rattle.model.specs.Rows.{Row, before, ahead, ordered}
use Rattle.model.specs.Pages.{matches, comes_after}
use Rattle.model.proofs.Order.{before_or, ahead_irrefl, ahead_asym, version_row}
use Rattle.model.proofs.Pages.{after_version}
use Rattle.search.specs.Places.{leading, nth_row, found_if, key_place, version_place, version_in, place_found}
use Rattle.std.specs.Prelude.{Result}
use Rattle.std.specs.Prelude.{Ok, Err}
use Rattle.search.proofs.Positions.{row_there, leading_most, leading_as, none_lead, version_used, version_free}
use Rattle.search.specs.Halving.{Halved}
use Rattle.search.proofs.Halving.{leading_stops, leading_passes, key_ahead, halved_most}
use Rattle.std.specs.declared.cmp.Ordering.{Ordering}
use Rattle.std.specs.declared.cmp.Ordering.TheVariants.{Less, Equal, Greater}
use Rattle.listing.specs.Places.{place_after, page_start, up_to, prefix_end, page_end, is_prefix_order, Ends}
use Rattle.listing.proofs.Order.{before_first, up_to_falls}

-- ## The place after a key and a version

-- the row is the version
abbrev has_version : List ℕ → ℕ → Row → Bool
has_version k v x = same x.key k && eqb x.number v

-- behind the row that was found, or at the place where it belongs
abbrev behind_found : Result ℕ ℕ → ℕ
behind_found (Ok i) = suc i
behind_found (Err i) = i

module _ (k : List ℕ) (v : ℕ) (given : eqb v 0 ≡ false) where
  -- After the version come the rows that its own row is ahead of.
  own : (x y : Row) → has_version k v x ≡ true → comes_after k v y ≡ ahead x y
  own x y w =
      let s : x.key ≡ k = same_path x.key k (and_l _ _ w) in
      let m : x.number ≡ v = eqb-true x.number v (and_r (same x.key k) _ w) in
      after_version k v y given ∙ rw (s, m)

  -- A row that is neither ahead of the version nor its own comes after it.
  other : (x : Row) → ahead x (version_row k v) ≡ false → has_version k v x ≡ false → comes_after k v x ≡ true
  other x a w =
      let g = or_none (before x.key k) _ a in
      after_version k v x given ∙ elim (before_or x.key k g.0) [
        | inl b ↦ or_l (before k x.key) _ b
        | inr b ↦
            let s : same x.key k ≡ true = same_sym x.key k ∙ b in
            let h : ltb v x.number ≡ false = rw s at g.1 in
            let d : eqb x.number v ≡ false = rw s at w in
            or_r (before k x.key) _ (and_i (same k x.key) _ b (lt-ltb x.number v (omega (arith, ltb-false v x.number h, eqb-false x.number v d))))
      ]

  next_found : (x : Row) (xs : List Row) (i : ℕ) → behind_found (found_if (has_version k v) (x ∷ xs) (suc i)) ≡ suc (behind_found (found_if (has_version k v) xs i))
  next_found x xs i =
      elim (either (then_some (nth_row xs i) false (has_version k v))) [
        | inl t ↦ rw t
        | inr t ↦ rw t
      ]

  found_after : (xs : List Row) → ordered xs ≡ true
      → behind_found (found_if (has_version k v) xs (leading (λ x. ahead x (version_row k v)) xs)) ≡ leading (λ x. not (comes_after k v x)) xs
  found_after [] o = refl
  found_after (x ∷ xs) o =
      elim (either (ahead x (version_row k v))) [
        | inl t ↦
            let f : comes_after k v x ≡ false = after_version k v x given ∙ ahead_asym x (version_row k v) t in
            rw (t, f) (next_found x xs (leading (λ y. ahead y (version_row k v)) xs) ∙ ap suc (found_after xs (and_r (all (ahead x) xs) _ o)))
        | inr t ↦ elim (either (has_version k v x)) [
          | inl w ↦
              let last = none_lead (λ y. not (comes_after k v y)) (ahead x) (λ y a. rw (own x y w ∙ a)) xs (and_l _ _ o) in
              rw (t, own x x w ∙ ahead_irrefl x) (rw w (ap suc (sym last)))
          | inr w ↦ rw (t, other x t w) (rw w)
        ]
      ]

  version_after : (xs : List Row) → ordered xs ≡ true → behind_found (version_in k v xs) ≡ place_after k v xs
  unfolding version_in version_place place_after
  version_after xs o = found_after xs o

module _ (xs : List Row) (k : List ℕ) (v : ℕ) where
  pub after_none : (r : ℕ) → v ≡ 0 → Within r (key_place k xs) (length xs) → Within r (place_after k v xs) (length xs)
  unfolding place_after key_place
  after_none r z w =
      record { is = w.is ∙ rw z (leading_as (λ x. before x.key k) (λ x. not (comes_after k 0 x)) (λ x. sym (before_first k x)) xs); most = w.most }

  module _ (o : ordered xs ≡ true) (h : v ≡ 0 → ⊥) (r : Result ℕ ℕ) (i : ℕ) (e : r ≡ version_in k v xs) where
    pub after_at : r ≡ Ok i → Within (i + 1) (place_after k v xs) (length xs)
    after_at t = record { is = rw add-one (ap behind_found (sym t ∙ e) ∙ version_after k v (ne_eqb v 0 h) xs o); most = omega (arith, version_used xs k r i v e t) }

    pub after_place : r ≡ Err i → Within i (place_after k v xs) (length xs)
    after_place t = record { is = ap behind_found (sym t ∙ e) ∙ version_after k v (ne_eqb v 0 h) xs o; most = version_free xs k r i v e t }

-- A place at most one behind a row that is found fits; of any such place, so that the wrong one fails by its place.
pub after_fits : (xs : List Row) (k : List ℕ) (v : ℕ) (r : Result ℕ ℕ) (i j u : ℕ) → r ≡ version_in k v xs → r ≡ Ok i → leb j 1 ≡ true → u ≡ length xs → Fits w64 u → Fits w64 (i + j)
after_fits xs k v r i j u e t h l f = let g = version_used xs k r i v e t in let k = leb-true j 1 h in let m : i + j ≤ u = omega arith in omega (arith, f)

pub ruleset after_cases = (after_none, after_at, after_place)

-- ## The page's start

-- The later of the two places.
pub start_within : (p k : List ℕ) (v u : ℕ) (xs : List Row) (f a r : ℕ) → Within f (key_place p xs) u → Within a (place_after k v xs) u → r ≡ max f a → Within r (page_start p k v xs) u
unfolding page_start
start_within p k v u xs f a r x y e = record { is = omega (arith, x.is, y.is); most = omega (arith, x.most, y.most) }

-- It is the one after the key and the version, where the prefix's is in front of that.
pub start_after : (p k : List ℕ) (v u : ℕ) (xs : List Row) (f a : ℕ) → Within f (key_place p xs) u → Within a (place_after k v xs) u → f < a → Within a (page_start p k v xs) u
start_after p k v u xs f a x y h = start_within p k v u xs f a a x y (omega arith)

-- ## The page's end

module _ (xs : List Row) (p : List ℕ) (start count : ℕ) (o : ordered xs ≡ true) (s : Span (key_place p xs) start (length xs)) (answers : ℕ → Ordering → Type 0)
    (says : (i : ℕ) (r : Ordering) → answers i r → is_prefix_order r p (row_no xs i) ≡ true) where
  -- A row from the prefix's place on has no key before the prefix.
  not_before : (i : ℕ) → i < length xs → start ≤ i → before (row_no xs i).key p ≡ false
  unfolding key_place
  not_before i h l =
      elim (either (before (row_no xs i).key p)) [
        | inr t ↦ t
        | inl t ↦ absurd (omega (arith, s.from, leading_passes (λ x. before x.key p) (key_ahead p) xs i (row_no xs i) o (row_there xs i h) t))
      ]

  -- Where the halving ends, the prefix's rows end, or so many rows.
  module _ (end : ℕ) (e : end ≡ start + min count (length xs - start)) (r : Result ℕ ℕ) (w : Halved answers start end r) where
    -- so many rows of the prefix are in front
    in_front : place_found r ≤ page_end p start count xs
    unfolding page_end prefix_end
    in_front =
        elim (either (ltb start (place_found r))) [
          | inl t ↦
              let most = halved_most (up_to p) (up_to_falls p) xs o answers (λ i a. or_r (before (row_no xs i).key p) _ (says i Less a)) start end r (omega (arith, s.to)) w (ltb-true start (place_found r) t) in
              omega (arith, most, w.to)
          | inr t ↦ omega (arith, ltb-false start (place_found r) t)
        ]

    at_end : (i : ℕ) → r ≡ Err i → page_end p start count xs ≤ i
    unfolding page_end prefix_end
    at_end i t =
        let here : place_found r ≡ i = ap place_found t in
        elim (either (ltb i end)) [
          | inl u ↦
              let below : i < length xs = omega (arith, ltb-true i end u, s.to) in
              let last : matches p (row_no xs i) ≡ false = not-true _ (says i Greater (w.missing i t (ltb-true i end u))) in
              let stop = leading_stops (up_to p) xs i (row_no xs i) (row_there xs i below) (rw (not_before i below (omega (arith, w.from)), last)) in
              omega (arith, w.from, stop)
          | inr u ↦ omega (arith, w.to, ltb-false i end u, leading_most (up_to p) xs)
        ]

    pub ends_found : (i : ℕ) → (r ≡ Ok i) ⊎ (r ≡ Err i) → Ends start count i (page_end p start count xs) (length xs)
    ends_found i (inl t) = absurd (false≢true (says i Equal (w.found i t)))
    ends_found i (inr t) =
        let here : place_found r ≡ i = ap place_found t in
        record { is = omega (arith, in_front, at_end i t); from = omega (arith, w.from); few = omega (arith, w.to); to = omega (arith, w.to, s.to) }
