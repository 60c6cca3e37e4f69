-- The rows of a page: what follows them, what comes from the start, and that no two are of one key and number.
use Prim.Native.Nat.{ℕ, suc, ◌+◌, ◌≤◌, ◌<◌}
use mathlib.Core.Path.{◌≡◌, refl, sym, ◌∙◌, ap}
use mathlib.Core.Logic.{inl, inr}
use mathlib.Core.Bool.{Bool, true, false, ◌&&◌, ◌||◌}
use mathlib.Core.List.{List, [], ◌∷◌, ◌++◌, append_assoc}
use native.Mathlib.Omega.{arith}
use lib.Dec.{eqb}
use lib.ListN.{take, drop, take-append-drop}
use borrow.Author.Tests.{ne_eqb, lt-ltb}
use Rattle.buffers.specs.Lists.{keep, all, same}
use Rattle.buffers.proofs.Tests.{either, and_l, and_r}
use Rattle.buffers.proofs.Lists.{keep_append, keep_every, keep_nothing, keep_both, keep_keep, keep_narrower, all_true, all_as, all_middle, all_kept}
use Rattle.model.specs.Rows.{Row, before, ahead, ordered}
use Rattle.model.specs.Effects.{same_version}
use Rattle.model.specs.Pages.{matches, comes_after, rows_after_place}
use Rattle.model.proofs.Order.{ahead_trans, ahead_irrefl, ahead_asym, version_row, ordered_keep}
use Rattle.model.proofs.SoundRows.{version_refl, others_before, others_behind}

-- ## A row's key and number

-- In a table in order a row alone has its key and number.
pub version_once : (ys : List Row) (x : Row) (zs : List Row) → ordered (ys ++ x ∷ zs) ≡ true → keep (same_version x) (ys ++ x ∷ zs) ≡ x ∷ []
version_once ys x zs o =
    rw (keep_append (same_version x) ys (x ∷ zs), keep_nothing (same_version x) ys (others_before ys x zs o), version_refl x, keep_nothing (same_version x) zs (others_behind ys x zs o))

-- ## After a place

-- After a key's version come the rows that its row is ahead of.
pub after_version : (k : List ℕ) (v : ℕ) (x : Row) → eqb v 0 ≡ false → comes_after k v x ≡ ahead (version_row k v) x
unfolding comes_after
after_version k v x t = rw t

-- Version 0 stands for any number above those of the rows that are looked at.
after_zero : (k : List ℕ) (v : ℕ) (x : Row) (w : ℕ) → eqb v 0 ≡ true → x.number < w → comes_after k v x ≡ ahead (version_row k w) x
unfolding comes_after
after_zero k v x w t h = rw (t, lt-ltb x.number w h)

-- After a row's own place come the rows that it is ahead of.
after_row : (z x : Row) → 1 ≤ z.number → comes_after z.key z.number x ≡ ahead z x
after_row z x h = after_version z.key z.number x (ne_eqb z.number 0 (λ q. omega arith))

-- What a row after a place is ahead of comes after the place too.
pub after_trans : (k : List ℕ) (v : ℕ) (z x : Row) → comes_after k v z ≡ true → ahead z x ≡ true → comes_after k v x ≡ true
after_trans k v z x e a =
    elim (either (eqb v 0)) [
      | inl t ↦
          let w : ℕ = suc (z.number + x.number) in
          after_zero k v x w t (omega arith) ∙ ahead_trans (version_row k w) z x (sym (after_zero k v z w t (omega arith)) ∙ e) a
      | inr t ↦ after_version k v x t ∙ ahead_trans (version_row k v) z x (sym (after_version k v z t) ∙ e) a
    ]

after_start : (x : Row) → comes_after [] 0 x ≡ true
unfolding comes_after
after_start x = go x.key
  where
    go : (k : List ℕ) → (before [] k || (same [] k && true)) ≡ true
    go [] = refl
    go (y ∷ ys) = refl

-- From the start all matching rows come.
pub from_start : (prefix : List ℕ) (xs : List Row) → rows_after_place prefix [] 0 xs ≡ keep (matches prefix) xs
from_start prefix xs =
    keep_both (matches prefix) (comes_after [] 0) xs ∙ ap (keep (matches prefix)) (keep_every (comes_after [] 0) xs (all_true (comes_after [] 0) after_start xs))

-- ## After a page

-- In a table in order the rows behind a row are those that come after its place.
behind_row : (ys : List Row) (x : Row) (zs : List Row) → ordered (ys ++ x ∷ zs) ≡ true → 1 ≤ x.number → keep (comes_after x.key x.number) (ys ++ x ∷ zs) ≡ zs
behind_row [] x zs o h =
    let t = comes_after x.key x.number in
    rw (after_row x x h ∙ ahead_irrefl x) (keep_every t zs (all_as (ahead x) t (λ y a. after_row x y h ∙ a) zs (and_l _ _ o)))
behind_row (y ∷ ys) x zs o h =
    rw (after_row x y h ∙ ahead_asym y x (all_middle (ahead y) ys x zs (and_l _ _ o))) (behind_row ys x zs (and_r (all (ahead y) (ys ++ x ∷ zs)) _ o) h)

-- Of the matching rows after a place, those after a later place are those that pass both tests.
narrower_place : (m s t : Row → Bool) → ((y : Row) → t y ≡ true → s y ≡ true) → (xs : List Row) → keep (λ y. m y && t y) xs ≡ keep t (keep (λ y. m y && s y) xs)
narrower_place m s t f xs = keep_both m t xs ∙ ap (keep m) (sym (keep_narrower t s f xs)) ∙ keep_keep m t (keep s xs) ∙ ap (keep t) (sym (keep_both m s xs))

-- After the last row of a page come the matching rows that the page left.
pub rest_after : (prefix k : List ℕ) (v n : ℕ) (xs ys : List Row) (x : Row) → ordered xs ≡ true → take n (rows_after_place prefix k v xs) ≡ ys ++ x ∷ [] → 1 ≤ x.number
    → rows_after_place prefix x.key x.number xs ≡ drop n (rows_after_place prefix k v xs)
rest_after prefix k v n xs ys x o e h =
    let shown : Row → Bool = λ y. matches prefix y && comes_after k v y in
    let left : List Row = drop n (keep shown xs) in
    let cut : keep shown xs ≡ ys ++ x ∷ left = sym (take-append-drop n (keep shown xs)) ∙ ap (λ (l : List Row). l ++ left) e ∙ append_assoc ys (x ∷ []) left in
    let last : comes_after k v x ≡ true = and_r (matches prefix x) _ (all_middle shown ys x left (rw (← cut) (all_kept shown xs))) in
    let o' : ordered (ys ++ x ∷ left) ≡ true = rw (← cut) (ordered_keep shown xs o) in
    narrower_place (matches prefix) (comes_after k v) (comes_after x.key x.number) (λ y t. after_trans k v x y last (sym (after_row x y h) ∙ t)) xs
    ∙ ap (keep (comes_after x.key x.number)) cut ∙ behind_row ys x left o' h
