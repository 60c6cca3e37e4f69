-- The tests by which the whole is told, in the order in which they are made.
use Rattle.std.specs.Prelude.{ℕ, zero, suc, ◌+◌, ◌*◌, ◌-◌, Bool, true, false, ◌&&◌, ◌||◌, List, [], eqb, leb, ltb, take, drop}
use Rattle.buffers.specs.Choices.{pick}
use Rattle.buffers.specs.Lists.{all, same}
use Rattle.text.specs.Keys.{is_key}
use Rattle.blocks.specs.Blocks.{key_in, is_block}
use Rattle.model.specs.Rows.{Row, before, ahead, is_data, is_marker, sound_data, sound_marker}
use Rattle.table.specs.Layout.{row_in, row_at}

-- a test holds of every number below k
abbrev pub all_below : (ℕ → Bool) → ℕ → Bool
all_below p zero = true
all_below p (suc k) = all_below p k && p k

-- all are zero
abbrev pub zeros : List ℕ → Bool
zeros l = all (λ x. eqb x 0) l

-- the number and the creation of a row, in a bucket with this next number and time
abbrev pub made_here : ℕ → ℕ → Row → Bool
made_here next time x = leb 1 x.number && (ltb x.number next && leb x.created time)

-- a sound row's numbers, whatever its key
unfoldable pub sound_numbers : ℕ → ℕ → Row → Bool
sound_numbers next time x =
    pick (is_data x) (made_here next time x && sound_data x)
    (pick (is_marker x) (made_here next time x && sound_marker x)
    false)

-- the numbers of the row at a position are sound
abbrev pub numbers_at : ℕ → ℕ → List ℕ → ℕ → Bool
numbers_at next time numbers i = sound_numbers next time (row_in (take 8 (drop (8 * i) numbers)) [])

-- 64 bytes are those of a key
unfoldable pub is_key_block : List ℕ → Bool
is_key_block block = is_block block && is_key (key_in block)

-- the 64 bytes of the row at a position
abbrev pub block_at : List ℕ → ℕ → List ℕ
block_at keys i = take 64 (drop (64 * i) keys)

-- the bytes of the row at a position are those of a key
abbrev pub keyed_at : List ℕ → ℕ → Bool
keyed_at keys i = is_key_block (block_at keys i)

-- a version x of key a stands before a version y of key b
abbrev pub ahead_of : List ℕ → ℕ → List ℕ → ℕ → Bool
ahead_of a x b y = before a b || (same a b && ltb y x)

-- the row at a position stands before the next one
unfoldable pub ahead_at : List ℕ → List ℕ → ℕ → Bool
ahead_at numbers keys i = ahead (row_at numbers keys i) (row_at numbers keys (i + 1))

-- the used rows have keys, and each stands before the next
unfoldable pub sound_keys : List ℕ → List ℕ → ℕ → Bool
sound_keys numbers keys used = all_below (keyed_at keys) used && all_below (ahead_at numbers keys) (used - 1)

-- the used rows are sound, each stands before the next, and the rest is zero
unfoldable pub sound_table : ℕ → ℕ → List ℕ → List ℕ → ℕ → Bool
sound_table next time numbers keys used =
    pick (all_below (numbers_at next time numbers) used)
    (pick (sound_keys numbers keys used)
    (pick (zeros (drop (8 * used) numbers)) (zeros (drop (64 * used) keys)) false)
    false)
    false
