-- A change in buffers that hold rows: they hold the changed rows.
use Prim.Native.Nat.{ℕ, zero, suc, ◌*◌, ◌≤◌, ◌<◌}
use mathlib.Core.Path.{◌≡◌, refl, sym, ap, ◌∙◌}
use mathlib.Core.Bool.{Bool, true}
use mathlib.Core.List.{List, [], ◌∷◌, ◌++◌}
use native.Mathlib.Omega.{arith}
use lib.Dec.{leb}
use lib.ListN.{length, get_or, take, drop, set, length-append, length-drop, length-set, take-append-drop}
use lib.Seq.{length-take-le, set_split, split_at}
use borrow.Author.Tests.{le-leb}
use Rattle.buffers.specs.Writes.{placed}
use Rattle.buffers.proofs.Tests.{and_i}
use Rattle.buffers.proofs.Lists.{all_append, all_set, all_take, all_drop}
use Rattle.blocks.specs.Blocks.{block_of}
use Rattle.model.specs.Rows.{Row}
use Rattle.table.specs.Layout.{numbers_of_row, keys_of, keys_fit, Holds}
use Rattle.table.specs.Changes.{insert_at, remove_at}
use Rattle.table.specs.Moves.{opened, closed}
use Rattle.table.proofs.Laying.{Laying, lay_insert, lay_remove, lay_rewrite}
use Rattle.table.proofs.Held.{numbers_laying, keys_laying, held_fit}

-- ## The changed list

pub insert_length : (at : ℕ) (x : Row) (xs : List Row) → at ≤ length xs → length (insert_at at x xs) ≡ suc (length xs)
insert_length at x xs h =
    let t = length-take-le at xs h in
    let d = length-drop at xs in
    length-append (take at xs) (x ∷ drop at xs) ∙ omega arith

pub remove_length : (at : ℕ) (xs : List Row) → at < length xs → suc (length (remove_at at xs)) ≡ length xs
remove_length at xs h =
    let t = length-take-le at xs (omega arith) in
    let d = length-drop (suc at) xs in
    let e = length-append (take at xs) (drop (suc at) xs) in
    omega arith

-- the key fits its bytes
fit : Row → Bool
fit x = leb (length x.key) 63

insert_fits : (at : ℕ) (x : Row) (xs : List Row) → length x.key ≤ 63 → keys_fit xs ≡ true → keys_fit (insert_at at x xs) ≡ true
unfolding fit
insert_fits at x xs l f =
    all_append fit (take at xs) (x ∷ drop at xs) (all_take fit at xs f) (and_i (fit x) _ (le-leb (length x.key) 63 l) (all_drop fit at xs f))

remove_fits : (at : ℕ) (xs : List Row) → keys_fit xs ≡ true → keys_fit (remove_at at xs) ≡ true
unfolding fit
remove_fits at xs f = all_append fit (take at xs) (drop (suc at) xs) (all_take fit at xs f) (all_drop fit (suc at) xs f)

set_fits : (at : ℕ) (x : Row) (xs : List Row) → length x.key ≤ 63 → keys_fit xs ≡ true → keys_fit (set xs at x) ≡ true
unfolding fit
set_fits at x xs l f = all_set fit xs at x (le-leb (length x.key) 63 l) f

same_keys : (c : ℕ) (xs : List Row) (at : ℕ) (x e : Row) → x.key ≡ (get_or xs at e).key → keys_of c xs ≡ keys_of c (set xs at x)
same_keys zero xs at x e q = refl
same_keys (suc c) [] at x e q = refl
same_keys (suc c) (w ∷ ws) zero x e q = ap (λ (k : List ℕ). block_of k ++ keys_of c ws) (sym q)
same_keys (suc c) (w ∷ ws) (suc at) x e q = ap (λ (l : List ℕ). block_of w.key ++ l) (same_keys c ws at x e q)

-- ## One layout

module _ {part : Row → List ℕ} {k : ℕ} {lay : ℕ → List Row → List ℕ} (y : Laying part k lay) (c at : ℕ) (xs : List Row) where
  pub laid_insert : (x : Row) → at ≤ length xs → length xs < c → placed (opened k (length xs) at (lay c xs)) (k * at) (part x) ≡ lay c (insert_at at x xs)
  laid_insert x h g =
      let t = length-take-le at xs h in
      let d = length-drop at xs in
      ap (λ (l : List Row). placed (opened k (length xs) at (lay c l)) (k * at) (part x)) (sym (take-append-drop at xs))
      ∙ lay_insert y (take at xs) (drop at xs) c at (sym t) x (length xs) (omega arith) g

  module _ (e : Row) (h : at < length xs) where
    pub laid_remove : length xs ≤ c → closed k 0 (length xs) at (lay c xs) ≡ lay c (remove_at at xs)
    laid_remove g =
        let t = length-take-le at xs (omega arith) in
        let d = length-drop (suc at) xs in
        ap (λ (l : List Row). closed k 0 (length xs) at (lay c l)) (split_at xs at e h)
        ∙ lay_remove y (take at xs) (drop (suc at) xs) c at (sym t) (get_or xs at e) (length xs) (omega arith) g

    pub laid_rewrite : (x : Row) → length xs ≤ c → placed (lay c xs) (k * at) (part x) ≡ lay c (set xs at x)
    laid_rewrite x g =
        let t = length-take-le at xs (omega arith) in
        ap (λ (l : List Row). placed (lay c l) (k * at) (part x)) (split_at xs at e h)
        ∙ lay_rewrite y (take at xs) (drop (suc at) xs) c at (sym t) x (get_or xs at e) (omega arith)
        ∙ ap (lay c) (sym (set_split xs at x h))

-- ## Both

module _ {c : ℕ} {xs : List Row} {n b : List ℕ} (h : Holds c xs n b) (at : ℕ) where
  pub holds_insert : (x : Row) → at ≤ length xs → length xs < c → length x.key ≤ 63
      → Holds c (insert_at at x xs) (placed (opened 8 (length xs) at n) (8 * at) (numbers_of_row x)) (placed (opened 64 (length xs) at b) (64 * at) (block_of x.key))
  holds_insert x p g l =
      record {
        numbers_are = rw h.numbers_are (laid_insert numbers_laying c at xs x p g);
        keys_are = rw h.keys_are (laid_insert keys_laying c at xs x p g);
        room = rw (insert_length at x xs p) g;
        keys_have_room = insert_fits at x xs l h.keys_have_room;
      }

  module _ (e : Row) (p : at < length xs) where
    pub holds_remove : Holds c (remove_at at xs) (closed 8 0 (length xs) at n) (closed 64 0 (length xs) at b)
    holds_remove =
        let r = h.room in
        let l = remove_length at xs p in
        record {
          numbers_are = rw h.numbers_are (laid_remove numbers_laying c at xs e p r);
          keys_are = rw h.keys_are (laid_remove keys_laying c at xs e p r);
          room = omega arith;
          keys_have_room = remove_fits at xs h.keys_have_room;
        }

    pub holds_rewrite : (x : Row) → x.key ≡ (get_or xs at e).key → Holds c (set xs at x) (placed n (8 * at) (numbers_of_row x)) b
    holds_rewrite x q =
        let r = h.room in
        record {
          numbers_are = rw h.numbers_are (laid_rewrite numbers_laying c at xs e p x r);
          keys_are = h.keys_are ∙ same_keys c xs at x e q;
          room = rw length-set r;
          keys_have_room = set_fits at x xs (rw q (held_fit h at e p)) h.keys_have_room;
        }
