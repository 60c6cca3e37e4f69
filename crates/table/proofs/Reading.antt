-- What is read of a lent table.
use Prim.Native.Nat.{ℕ, ◌+◌, ◌*◌, ◌≤◌, ◌<◌}
use mathlib.Core.Path.{◌≡◌, sym, ap, ◌∙◌}
use mathlib.Core.List.{List}
use native.Mathlib.Omega.{arith}
use lib.ListN.{length, get_or, take, drop, length-take}
use lib.Seq.{get_or-take, get_or-drop}
use Rattle.model.specs.Rows.{Row}
use Rattle.table.specs.Contents.{Contents, contents, spare_row, row_no, numbers_in_row}
use Rattle.table.specs.Places.{row_numbers, key_at}
use Rattle.table.specs.Searching.{Searchable}
use Rattle.table.proofs.Held.{rows_length, row_at_lem}

module _ (n b : List ℕ) (u : ℕ) (t : Contents) (e : contents n b u ≡ t) (s : Searchable n b u) (at : ℕ) (h : at < length t.rows) where
  used_there : at < u
  used_there = let l : length t.rows ≡ u = sym (ap (λ (v : Contents). length v.rows) e) ∙ rows_length n b u in omega (arith, h)

  pub numbers_there : 8 * at + 8 ≤ length n
  numbers_there = omega (arith, used_there, s.numbers_fit)

  pub keys_there : 64 * at + 64 ≤ length b
  keys_there = omega (arith, used_there, s.keys_have_room)

  pub length_there : get_or b (64 * at) 0 ≤ 63
  length_there = s.lengths at used_there

  pub numbers_as_row : row_numbers n at ≡ numbers_in_row (row_no t.rows at)
  numbers_as_row = ap numbers_in_row (row_at_lem n b u at spare_row used_there) ∙ ap (λ (v : Contents). numbers_in_row (row_no v.rows at)) e

  pub key_as_row : key_at b at ≡ (row_no t.rows at).key
  key_as_row = ap (λ (x : Row). x.key) (row_at_lem n b u at spare_row used_there) ∙ ap (λ (v : Contents). (row_no v.rows at).key) e

  -- The same of what was read there.
  module _ (key : List ℕ) (f : key ≡ key_at b at) where
    pub key_read_as_row : key ≡ (row_no t.rows at).key
    key_read_as_row = f ∙ key_as_row

    pub key_read_short : length key ≤ 63
    key_read_short =
        let z : 64 * at + 0 ≡ 64 * at = omega arith in
        let block = take 64 (drop (64 * at) b) in
        let g : get_or block 0 0 ≡ get_or b (64 * at) 0 = get_or-take 64 (drop (64 * at) b) 0 0 (omega arith) ∙ get_or-drop (64 * at) b 0 0 ∙ rw z in
        rw f (omega (arith, length-take (get_or block 0 0) (drop 1 block), length_there))

pub ruleset reading_cases = (key_read_as_row, key_read_short, numbers_there, keys_there, length_there, numbers_as_row, key_as_row)
