-- How many rows a line leaves: the used ones, less those removed, plus those added.
use Prim.Native.Nat.{ℕ, ◌+◌}
use mathlib.Core.Path.{◌≡◌, refl}
use mathlib.Core.Logic.{inl, inr}
use mathlib.Core.Bool.{Bool, true, false, not, true≢false}
use mathlib.Core.List.{List, [], ◌∷◌}
use Rattle.std.specs.Prelude.{Option, Some, None}
use native.Mathlib.Omega.{arith}
use lib.ListN.{length, length-append}
use Rattle.buffers.specs.Lists.{all, keep, first, change, total}
use Rattle.buffers.proofs.Tests.{either, and_l, and_r}
use Rattle.buffers.proofs.Lists.{keep_every, all_first}
use Rattle.calendar.specs.declared.Now.{Now}
use Rattle.model.specs.Rows.{Row, before, ahead, ordered}
use Rattle.model.specs.Settings.{Rule, Bucket}
use Rattle.model.specs.Requests.{name, Verb, Put, Copy, Retain, Hold, AddMarker, DeleteVersion, Set, Sweep, Ask}
use Rattle.model.specs.declared.Fate.{Fate}
use Rattle.model.specs.declared.Fate.TheVariants.{Stays, Goes, Gains}
use Rattle.model.specs.Sweep.{in_place, marks, removes, fates, carried_out, swept, counted}
use Rattle.model.specs.Effects.{row_of, same_version, is_named, insert_by_key, added, removed, rows_after}
use Rattle.model.specs.Refusals.{missing}
use Rattle.model.proofs.Sweeping.{each_fate}
use Rattle.model.proofs.SoundRows.{version_refl, apart, others}

pub length_insert : (x : Row) (xs : List Row) → length (insert_by_key x xs) ≡ length xs + 1
length_insert x [] = refl
length_insert x (y ∷ ys) =
    elim (either (before y.key x.key)) [
      | inl t ↦ rw t (omega (arith, length_insert x ys))
      | inr t ↦ rw t (omega arith)
    ]

pub length_change : (q : Row → Bool) (f : Row → Row) (xs : List Row) → length (change q f xs) ≡ length xs
length_change q f [] = refl
length_change q f (x ∷ xs) = omega (arith, length_change q f xs)

-- In an ordered table only the row itself is of its key and number.
length_remove : (p : Row → Bool) (xs : List Row) (x : Row) → ordered xs ≡ true → first p xs ≡ Some x → length (keep (λ y. not (same_version x y)) xs) + 1 ≡ length xs
length_remove p [] x o f = cc
length_remove p (y ∷ ys) x o f =
    elim (either (p y)) [
      | inl t ↦
          let g : Some y ≡ Some x = rw t at f in
          let s : y ≡ x = cc in
          let here : same_version x y ≡ true = rw s (version_refl x) in
          simp (here, keep_every (λ z. not (same_version x z)) ys (rw s at (others y ys (and_l _ _ o)))) (omega arith)
      | inr t ↦
          let g : first p ys ≡ Some x = rw t at f in
          let d : ahead y x ≡ true = all_first (ahead y) p ys x (and_l _ _ o) g in
          simp (apart y x d).1 (omega (arith, length_remove p ys x (and_r (all (ahead y) ys) _ o) g))
    ]

length_in_place : (f : Fate) (made n : ℕ) (x : Row) → length (in_place f made n x) + removes f ≡ 1 + marks f
length_in_place Stays made n x = refl
length_in_place Goes made n x = refl
length_in_place Gains made n x = refl

-- The rows that fates leave: less those that go, plus the markers.
pub length_carried : (made n : ℕ) (fs : List Fate) (xs : List Row) → length fs ≡ length xs → length (carried_out made n fs xs) + total removes fs ≡ length xs + total marks fs
length_carried made n [] [] e = refl
length_carried made n [] (x ∷ xs) e = absurd (omega arith)
length_carried made n (f ∷ fs) [] e = absurd (omega arith)
length_carried made n (f ∷ fs) (x ∷ xs) e =
    let here = length_in_place f made n x in
    let rest = length_carried made (n + marks f) fs xs (omega arith) in
    let joined = length-append (in_place f made n x) (carried_out made (n + marks f) fs xs) in
    omega arith

pub length_swept : (rules : List Rule) (now : Now) (n : ℕ) (y : Option Row) (xs : List Row) → length (swept rules now n y xs) + counted removes rules now.judge y xs ≡ length xs + counted marks rules now.judge y xs
length_swept rules now n y xs = length_carried now.stamp n (fates rules now.judge y xs) xs (each_fate rules now.judge y xs)

-- Refusal 12 in 01's words.
pub rows_left : (b : Bucket) (now : Now) (w : Verb) → ordered b.rows ≡ true → missing b.rows w ≡ false → length (rows_after b now w) + removed b now w ≡ length b.rows + added b now w
unfolding rows_after removed added missing
rows_left b now (Put k body size t) o m = rw length_insert (omega arith)
rows_left b now (Copy n k t) o m = rw length_insert (omega arith)
rows_left b now (Retain n r y) o m = rw length_change (omega arith)
rows_left b now (Hold n on) o m = rw length_change (omega arith)
rows_left b now (AddMarker k y) o m = rw length_insert (omega arith)
rows_left b now (DeleteVersion k v y) o m = go (row_of b.rows (name k (Some v))) refl
  where
    go : (r : Option Row) → row_of b.rows (name k (Some v)) ≡ r → length (keep (λ x. not (is_named b.rows (name k (Some v)) x)) b.rows) + 1 ≡ length b.rows + 0
    go None q = absurd (true≢false (rw q at m))
    go (Some x) q = simp q (omega (arith, length_remove _ b.rows x o q))
rows_left b now (Set s) o m = refl
rows_left b now Sweep o m = length_swept b.settings.config.rules now b.settings.next None b.rows
rows_left b now (Ask q) o m = refl
