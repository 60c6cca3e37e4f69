-- 01, "Rows and settings": the rows as numbers and key bytes in two buffers, and the rows that two buffers hold.
use Rattle.std.specs.Prelude.{ℕ, zero, suc, ◌*◌, ◌/◌, ◌≤◌, ◌≡◌, Bool, true, List, [], ◌∷◌, ◌++◌, leb, length, get_or, take, drop, replicate}
use Rattle.buffers.specs.Lists.{all}
use Rattle.blocks.specs.Blocks.{block_of, key_in}
use Rattle.model.specs.Rows.{Row}

-- ## From rows to buffers

-- a row's eight numbers
abbrev pub numbers_of_row : Row → List ℕ
numbers_of_row x = x.number ∷ x.kind ∷ x.created ∷ x.body ∷ x.size ∷ x.mode ∷ x.until ∷ x.hold ∷ []

-- the 8c numbers of a table of capacity c: the rows come first, the rest are zero
abbrev pub numbers_of : ℕ → List Row → List ℕ
numbers_of zero xs = []
numbers_of (suc c) [] = replicate 8 0 ++ numbers_of c []
numbers_of (suc c) (x ∷ xs) = numbers_of_row x ++ numbers_of c xs

-- the 64c key bytes
abbrev pub keys_of : ℕ → List Row → List ℕ
keys_of zero xs = []
keys_of (suc c) [] = replicate 64 0 ++ keys_of c []
keys_of (suc c) (x ∷ xs) = block_of x.key ++ keys_of c xs

-- ## From buffers to rows

-- the row in eight numbers and 64 bytes
abbrev pub row_in : List ℕ → List ℕ → Row
row_in ns block =
    record {
      number = get_or ns 0 0;
      kind = get_or ns 1 0;
      created = get_or ns 2 0;
      body = get_or ns 3 0;
      size = get_or ns 4 0;
      mode = get_or ns 5 0;
      until = get_or ns 6 0;
      hold = get_or ns 7 0;
      key = key_in block;
    }

-- the row at a position, counted from 0
abbrev pub row_at : List ℕ → List ℕ → ℕ → Row
row_at numbers keys i = row_in (take 8 (drop (8 * i) numbers)) (take 64 (drop (64 * i) keys))

-- the used rows
abbrev pub rows_of : List ℕ → List ℕ → ℕ → List Row
rows_of numbers keys zero = []
rows_of numbers keys (suc n) = row_in (take 8 numbers) (take 64 keys) ∷ rows_of (drop 8 numbers) (drop 64 keys) n

-- the capacity that the buffers have
abbrev pub capacity : List ℕ → ℕ
capacity keys = length keys / 64

-- ## The tie

-- The keys fit their bytes.
abbrev pub keys_fit : List Row → Bool
keys_fit xs = all (λ x. leb (length x.key) 63) xs

-- The buffers hold these rows, in a table of capacity c: they are what the rows are written as.
pub record Holds (c : ℕ) (xs : List Row) (numbers keys : List ℕ) : Type 0 where
  pub numbers_are : numbers ≡ numbers_of c xs
  pub keys_are : keys ≡ keys_of c xs
  pub room : length xs ≤ c
  pub keys_have_room : keys_fit xs ≡ true
