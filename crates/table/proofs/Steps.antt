-- What each function of the crate leaves is what its contract says.
use Prim.Native.Nat.{ℕ, suc, ◌+◌, ◌-◌, ◌*◌, ◌≤◌, ◌<◌}
use mathlib.Core.Path.{◌≡◌, ap, ◌∙◌}
use mathlib.Core.List.{List, []}
use native.Mathlib.Omega.{arith}
use native.Mathlib.Nat.{mul-le-mul_left, mul-suc}
use lib.ListN.{length, drop, set, length-drop}
use lib.Seq.{length-take-le}
use borrow.Rule.Slice.PartMut.{mid_of, put_mid}
use Rattle.buffers.specs.Moves.{moved_up, moved_down}
use Rattle.buffers.specs.Writes.{placed, Wrote}
use Rattle.buffers.proofs.Moves.{length_up, length_down}
use Rattle.buffers.proofs.Parts.{part_back}
use Rattle.blocks.specs.Blocks.{block_of}
use Rattle.model.specs.Rows.{Row}
use Rattle.table.specs.declared.Numbers.{Numbers}
use Rattle.table.specs.Layout.{numbers_of_row, rows_of, capacity, Holds}
use Rattle.table.specs.Changes.{insert_at, remove_at}
use Rattle.table.specs.Places.{row_from, key_at, Insertable, InUse}
use Rattle.table.specs.Moves.{opened, closed}
use Rattle.table.proofs.Held.{rows_length, held_numbers, held_keys, held_key}
use Rattle.table.proofs.Changes.{holds_insert, holds_remove, holds_rewrite}

-- ## The lent rows come back moved

module _ {A : Type 0} (k used at : ℕ) (l : List A) where
  pub open_rooms : at ≤ used → k * used + k ≤ length l → k ≤ length (mid_of (k * at) (k * used + k - k * at) l)
  open_rooms h g =
      let t = mul-le-mul_left k h in
      let d = length-drop (k * at) l in
      rw (length-take-le (k * used + k - k * at) (drop (k * at) l) (omega arith)) (omega arith)

  pub opened_back : (m : List A) → m ≡ moved_up k (mid_of (k * at) (k * used + k - k * at) l) → at ≤ used → k * used + k ≤ length l
      → put_mid (k * at) (k * used + k - k * at) l m ≡ opened k used at l
  unfolding opened
  opened_back m e h g =
      let p = mid_of (k * at) (k * used + k - k * at) l in
      let t = mul-le-mul_left k h in
      let d = length-drop (k * at) l in
      let n : length p ≡ k * used + k - k * at = length-take-le (k * used + k - k * at) (drop (k * at) l) (omega arith) in
      part_back (k * at) (k * used + k - k * at) l m (moved_up k p) e (ap length e ∙ length_up k p (omega arith))

  pub closed_back : (z : A) (m : List A) → m ≡ moved_down k z (mid_of (k * at) (k * used - k * at) l) → at < used → k * used ≤ length l
      → put_mid (k * at) (k * used - k * at) l m ≡ closed k z used at l
  unfolding closed
  closed_back z m e h g =
      let p = mid_of (k * at) (k * used - k * at) l in
      let t : k * suc at ≤ k * used = mul-le-mul_left k h in
      let s = mul-suc k at in
      let d = length-drop (k * at) l in
      let n : length p ≡ k * used - k * at = length-take-le (k * used - k * at) (drop (k * at) l) (omega arith) in
      part_back (k * at) (k * used - k * at) l m (moved_down k z p) e (ap length e ∙ length_down k z p (omega arith))

  pub close_rooms : at < used → k * used ≤ length l → k ≤ length (mid_of (k * at) (k * used - k * at) l)
  close_rooms h g =
      let t : k * suc at ≤ k * used = mul-le-mul_left k h in
      let s = mul-suc k at in
      let d = length-drop (k * at) l in
      rw (length-take-le (k * used - k * at) (drop (k * at) l) (omega arith)) (omega arith)

pub rows_below : (k at used : ℕ) → at ≤ used → k * at ≤ k * used
rows_below k at used h = mul-le-mul_left k h

pub ruleset open_cases = (rows_below, open_rooms, opened_back)

pub ruleset close_cases = (rows_below, close_rooms, closed_back)

-- ## Room

module _ (n b : List ℕ) (used at : ℕ) where
  pub insert_numbers_room : Insertable n b used at → 8 * used + 8 ≤ length n
  insert_numbers_room p = let e = held_numbers p.held in omega arith

  pub used_numbers_room : InUse n b used at → 8 * used ≤ length n
  used_numbers_room p = let e = held_numbers p.held in let r = p.held.room in let l = rows_length n b used in omega arith

  pub used_keys_room : InUse n b used at → 64 * used ≤ length b
  used_keys_room p = let e = held_keys p.held in let r = p.held.room in let l = rows_length n b used in omega arith

  pub insert_row_room : (v : List ℕ) → Insertable n b used at → length v ≡ length n → 8 * at + 8 ≤ length v
  insert_row_room v p h = let e = held_numbers p.held in let w = p.within in omega (arith, p.free)

  pub insert_keys_room : Insertable n b used at → 64 * used + 64 ≤ length b
  insert_keys_room p = let e = held_keys p.held in omega (arith, p.free)

  pub insert_key_room : (w : List ℕ) → Insertable n b used at → length w ≡ length b → 64 * at + 64 ≤ length w
  insert_key_room w p h = omega (arith, insert_keys_room p, p.within)

  pub row_within : InUse n b used at → 8 * at + 8 ≤ length n
  row_within p = let e = used_numbers_room p in omega arith

-- ## The changed rows

-- a row, whatever it is
spare : Row
spare = record { number = 0; kind = 0; created = 0; body = 0; size = 0; mode = 0; until = 0; hold = 0; key = [] }

module _ (n b n' b' : List ℕ) (used at : ℕ) where
  pub row_inserted : (m : Numbers) (key : List ℕ) → Insertable n b used at → length key ≤ 63
      → (v w : List ℕ) (k r : ℕ) → v ≡ opened 8 used at n → n' ≡ placed v (8 * at) (numbers_of_row (row_from m [])) → w ≡ opened 64 used at b → Wrote w (64 * at) (block_of key) k b' r
      → Holds (capacity b) (insert_at at (row_from m key) (rows_of n b used)) n' b'
  row_inserted m key p l v w k r ev en ew written =
      let u = rows_length n b used in
      let e : n' ≡ placed (opened 8 used at n) (8 * at) (numbers_of_row (row_from m [])) = en ∙ ap (λ (x : List ℕ). placed x (8 * at) (numbers_of_row (row_from m []))) ev in
      let f : b' ≡ placed (opened 64 used at b) (64 * at) (block_of key) = written.holds ∙ ap (λ (x : List ℕ). placed x (64 * at) (block_of key)) ew in
      rw (e, f) (rw u at (holds_insert p.held at (row_from m key) (omega arith) (omega arith) l))

  pub row_removed : InUse n b used at → n' ≡ closed 8 0 used at n → b' ≡ closed 64 0 used at b → Holds (capacity b) (remove_at at (rows_of n b used)) n' b'
  row_removed p e f =
      let u = rows_length n b used in
      rw (e, f) (rw u at (holds_remove p.held at spare (omega arith)))

pub row_rewritten : (n b n' : List ℕ) (used at : ℕ) (m : Numbers) → InUse n b used at → n' ≡ placed n (8 * at) (numbers_of_row (row_from m []))
    → Holds (capacity b) (set (rows_of n b used) at (row_from m (key_at b at))) n' b
row_rewritten n b n' used at m p e =
    let u = rows_length n b used in
    let g : at < length (rows_of n b used) = omega arith in
    rw e (holds_rewrite p.held at spare g (row_from m (key_at b at)) (held_key p.held at spare g))

pub ruleset row_cases = (insert_numbers_room, insert_row_room, insert_keys_room, insert_key_room, used_numbers_room, used_keys_room, row_within, row_inserted, row_removed, row_rewritten)
