-- What buffers that hold rows have: their lengths, each row and key at its place, and the rows read back.
use Prim.Native.Nat.{ℕ, zero, suc, ◌+◌, ◌-◌, ◌*◌, ◌≤◌, ◌<◌}
use mathlib.Core.Path.{◌≡◌, refl, sym, ap, ap₂, ◌∙◌}
use mathlib.Core.Bool.{true}
use mathlib.Core.List.{List, [], ◌∷◌, ◌++◌}
use native.Mathlib.Omega.{arith}
use lib.Dec.{leb}
use lib.ListN.{length, get_or, take, drop}
use lib.Seq.{take_at, drop_at, drop-cons, drop-drop, get_or-take, get_or-drop}
use borrow.Author.Tests.{leb-true}
use Rattle.buffers.proofs.Tests.{and_l, and_r}
use Rattle.blocks.specs.Blocks.{block_of, key_in}
use Rattle.blocks.proofs.Blocks.{block_length, key_back, block_first}
use Rattle.model.specs.Rows.{Row}
use Rattle.table.specs.Layout.{numbers_of_row, numbers_of, keys_of, row_in, row_at, rows_of, capacity, keys_fit, Holds}
use Rattle.table.specs.Places.{key_at}
use Rattle.buffers.proofs.Lists.{all_at}
use Rattle.table.proofs.Laying.{Laying, lay_length, lay_rest}

-- ## The two layouts

abbrev pub block_of_row : Row → List ℕ
block_of_row x = block_of x.key

pub numbers_laying : Laying numbers_of_row 8 numbers_of
numbers_laying = record { wide = λ x. refl; none = λ xs. refl; free = λ c. refl; more = λ c x xs. refl }

pub keys_laying : Laying block_of_row 64 keys_of
keys_laying = record { wide = λ x. block_length x.key; none = λ xs. refl; free = λ c. refl; more = λ c x xs. refl }

pub numbers_length : (c : ℕ) (xs : List Row) → length (numbers_of c xs) ≡ 8 * c
numbers_length c xs = lay_length numbers_laying c xs

pub keys_length : (c : ℕ) (xs : List Row) → length (keys_of c xs) ≡ 64 * c
keys_length c xs = lay_length keys_laying c xs

-- ## Rows out of buffers

pub rows_length : (n b : List ℕ) (u : ℕ) → length (rows_of n b u) ≡ u
rows_length n b zero = refl
rows_length n b (suc u) = ap suc (rows_length (drop 8 n) (drop 64 b) u)

-- The row at a position is that of the used rows.
pub row_at_lem : (n b : List ℕ) (u i : ℕ) (d : Row) → i < u → row_at n b i ≡ get_or (rows_of n b u) i d
row_at_lem n b zero i d h = absurd (omega arith)
row_at_lem n b (suc u) zero d h = refl
row_at_lem n b (suc u) (suc i) d h =
    let p : drop (8 * suc i) n ≡ drop (8 * i) (drop 8 n) = let q : 8 * suc i ≡ 8 + 8 * i = omega arith in rw q (sym (drop-drop (8 * i) 8 n)) in
    let r : drop (64 * suc i) b ≡ drop (64 * i) (drop 64 b) = let q : 64 * suc i ≡ 64 + 64 * i = omega arith in rw q (sym (drop-drop (64 * i) 64 b)) in
    ap₂ (λ (l m : List ℕ). row_in (take 8 l) (take 64 m)) p r ∙ row_at_lem (drop 8 n) (drop 64 b) u i d (omega arith)

with_key : Row → List ℕ → Row
with_key x k =
    record { number = x.number; kind = x.kind; created = x.created; body = x.body; size = x.size; mode = x.mode; until = x.until; hold = x.hold; key = k }

-- Rows are read back as they were written.
pub read_back : (c : ℕ) (xs : List Row) → length xs ≤ c → keys_fit xs ≡ true → rows_of (numbers_of c xs) (keys_of c xs) (length xs) ≡ xs
unfolding with_key
read_back c [] h f = refl
read_back zero (x ∷ xs) h f = absurd (omega arith)
read_back (suc c) (x ∷ xs) h f =
    let fit : length x.key ≤ 63 = leb-true (length x.key) 63 (and_l (leb (length x.key) 63) (keys_fit xs) f) in
    let t : take 64 (block_of x.key ++ keys_of c xs) ≡ block_of x.key = take_at (block_of x.key) (keys_of c xs) 64 (block_length x.key) in
    let d : drop 64 (block_of x.key ++ keys_of c xs) ≡ keys_of c xs = drop_at (block_of x.key) (keys_of c xs) 64 (block_length x.key) in
    ap₂ (λ (r : Row) (l : List Row). r ∷ l) (ap (with_key x) (ap key_in t ∙ key_back x.key fit))
    (ap (λ (l : List ℕ). rows_of (numbers_of c xs) l (length xs)) d ∙ read_back c xs (omega arith) (and_r (leb (length x.key) 63) (keys_fit xs) f))

-- ## Buffers that hold rows

module _ {c : ℕ} {xs : List Row} {n b : List ℕ} (h : Holds c xs n b) where
  pub held_numbers : length n ≡ 8 * c
  held_numbers = ap length h.numbers_are ∙ numbers_length c xs

  pub held_keys : length b ≡ 64 * c
  held_keys = ap length h.keys_are ∙ keys_length c xs

  pub held_capacity : capacity b ≡ c
  held_capacity = let e = held_keys in omega arith

  pub held_rows : rows_of n b (length xs) ≡ xs
  held_rows = ap₂ (λ (l m : List ℕ). rows_of l m (length xs)) h.numbers_are h.keys_are ∙ read_back c xs h.room h.keys_have_room

  -- A change can follow: the buffers hold the rows that are read out of them.
  pub held_again : (u : ℕ) → u ≡ length xs → Holds (capacity b) (rows_of n b u) n b
  held_again u e = rw (held_capacity, e, held_rows) h

  module _ (i : ℕ) (d : Row) (below : i < length xs) where
    pub held_block : take 64 (drop (64 * i) b) ≡ block_of (get_or xs i d).key
    held_block =
        let r = h.room in
        let q : c - i ≡ suc (c - suc i) = omega arith in
        let e : drop (64 * i) b ≡ block_of (get_or xs i d).key ++ keys_of (c - suc i) (drop (suc i) xs) =
        ap (drop (64 * i)) h.keys_are ∙ lay_rest keys_laying i c xs (omega arith) r ∙ ap₂ keys_of q (drop-cons xs i d below) in
        ap (take 64) e ∙ take_at (block_of (get_or xs i d).key) (keys_of (c - suc i) (drop (suc i) xs)) 64 (block_length (get_or xs i d).key)

    pub held_fit : length (get_or xs i d).key ≤ 63
    held_fit = leb-true (length (get_or xs i d).key) 63 (all_at (λ (x : Row). leb (length x.key) 63) xs i d below h.keys_have_room)

    pub held_key : key_at b i ≡ (get_or xs i d).key
    held_key = ap key_in held_block ∙ key_back (get_or xs i d).key held_fit

    -- The first byte of a used row's block is at most 63.
    pub held_first : get_or b (64 * i) 0 ≤ 63
    held_first =
        let q : 64 * i + 0 ≡ 64 * i = omega arith in
        let e : get_or (take 64 (drop (64 * i) b)) 0 0 ≡ get_or b (64 * i) 0 = get_or-take 64 (drop (64 * i) b) 0 0 (omega arith) ∙ get_or-drop (64 * i) b 0 0 ∙ rw q in
        let f : get_or (take 64 (drop (64 * i) b)) 0 0 ≡ length (get_or xs i d).key = rw held_block (block_first (get_or xs i d).key held_fit) in
        let g = held_fit in
        omega arith
