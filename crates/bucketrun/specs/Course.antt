-- What the program's functions ask for and leave.
use Rattle.std.specs.Prelude.{ℕ, ◌-◌, ◌≤◌, ◌<◌, ◌≡◌, Bool, true, false, List, [], length, take, drop, Option, Some, None, IfSome, Result, is_err}
use Rattle.std.specs.Io.KnownBytes.{Appends, Consumes, IsAtEnd}
use Rattle.buffers.specs.Ranges.{Span}
use Rattle.buffers.specs.Writes.{Wrote}
use Rattle.text.specs.Lines.{lines_of}
use Rattle.text.specs.Keys.{contains}
use Rattle.settings.specs.declared.Settings.{Settings}
use Rattle.settings.specs.Bytes.{entries_length}
use Rattle.bucket.specs.Whole.{Lent, lent, whole}
use Rattle.bucketrun.specs.Program.{left_by, printed_by, ended_length, ended_lines, waiting, after_block, after_blocks, feed_ended, joined, written_by}

-- The bucket is whole, its entries are as many as there are, and the output has room for what waits and for an answer.
pub record Servable (b : Lent) (entries out : List ℕ) : Type 0 where
  pub is_whole : whole b ≡ true
  pub entries_long : length entries ≡ entries_length
  pub long : length out ≡ 131072

-- ## The lines of a block

-- The lines of the first bytes of a block are served: what they leave, and a cut behind a line feed.
pub record Through (h : Lent) (block : List ℕ) (i : ℕ) (b : Lent) : Type 0 where
  pub is_whole : whole b ≡ true
  pub leads : b ≡ left_by h (lines_of (take i block))
  pub inside : i ≤ length block
  pub cut : ended_length (take i block) ≡ i

-- The lines from one place to another are served, and what they print is written at the output's start; the output with ₀ is the one that came.
pub record ServedTo (h : Lent) (block : List ℕ) (from : ℕ) (out₀ : List ℕ) (b : Lent) (out : List ℕ) (at i : ℕ) : Type 0 where
  pub span : Span from i (length block)
  pub through : Through h (drop from block) (i - from) b
  pub prints : Wrote out₀ 0 (printed_by h (lines_of (take (i - from) (drop from block)))) 131072 out at
  pub most : at ≤ length out

-- Between two of them.
pub record BetweenLines (h : Lent) (block : List ℕ) (from : ℕ) (entries₀ out₀ : List ℕ) (b : Lent) (entries out : List ℕ) (at i : ℕ) : Type 0 where
  pub served : ServedTo h block from out₀ b out at i
  pub long : length out ≡ 131072
  pub entries_long : length entries ≡ entries_length
  pub entries_same : length entries ≡ length entries₀
  pub numbers_same : length b.numbers ≡ length h.numbers
  pub keys_same : length b.keys ≡ length h.keys
  pub out_same : length out ≡ length out₀

-- Where there is room for more, all lines are served that a line feed ends.
pub record ServedSome (h : Lent) (block : List ℕ) (from : ℕ) (out₀ : List ℕ) (b : Lent) (out : List ℕ) (at i : ℕ) : Type 0 where
  pub served : ServedTo h block from out₀ b out at i
  pub all : at ≤ 65536 → i - from ≡ ended_length (drop from block)

-- Between two parts of a block, each of which is written once it is served; the writer's bytes are known or not, before and now.
pub record BetweenParts (h : Lent) (block entries₀ out₀ : List ℕ) (written₀ : Option (List ℕ)) (b : Lent) (entries out : List ℕ) (written : Option (List ℕ)) (i : ℕ) : Type 0 where
  pub through : Through h block i b
  pub writes : Appends written₀ written (printed_by h (lines_of (take i block)))
  pub long : length out ≡ 131072
  pub entries_long : length entries ≡ entries_length
  pub entries_same : length entries ≡ length entries₀
  pub numbers_same : length b.numbers ≡ length h.numbers
  pub keys_same : length b.keys ≡ length h.keys
  pub out_same : length out ≡ length out₀

-- Lines are served and written: all that a line feed ends, where all output was taken.
pub record ServedAll (h : Lent) (block : List ℕ) (written₀ : Option (List ℕ)) (b : Lent) (written : Option (List ℕ)) (i : ℕ) (told : Bool) : Type 0 where
  pub through : Through h block i b
  pub all : told ≡ true → i ≡ ended_length block
  pub writes : told ≡ true → Appends written₀ written (printed_by h (lines_of (take i block)))

-- ## The blocks

-- whether the reading that is over failed
abbrev pub failed_in : {A E : Type 0} → Option (Result A E) → Bool
failed_in None = false
failed_in (Some r) = is_err r

-- Bytes came behind the first `kept`, which stay, at least one; at the input's end, or where reading failed, none did but a line feed, if any are kept. What came is what the reader gave.
pub record CameBehind (input : List ℕ) (kept : ℕ) (unread₀ : Option (List ℕ)) (exit : List ℕ) (unread : Option (List ℕ)) (end : ℕ) (over failed : Bool) : Type 0 where
  pub span : Span kept end (length input)
  pub stays : take kept exit ≡ take kept input
  pub comes : over ≡ false → kept < end
  pub ends : over ≡ true → take end exit ≡ feed_ended (take kept input)
  pub reads : over ≡ false → Consumes unread₀ unread (take (end - kept) (drop kept exit))
  pub rests : over ≡ true → Consumes unread₀ unread []
  pub at_end : over ≡ true → failed ≡ false → IsAtEnd unread

-- A block is served, and the start of a line may be kept: what stands then is what the block leaves, where all output was taken.
pub record TookBlock (h : Lent) (block : List ℕ) (written₀ : Option (List ℕ)) (b : Lent) (input : List ℕ) (written : Option (List ℕ)) (kept : ℕ) (told : Bool) : Type 0 where
  pub is_whole : whole b ≡ true
  pub few : kept ≤ 513
  pub takes : told ≡ true → waiting b (take kept input) ≡ after_block (waiting h []) block
  pub writes : told ≡ true → Appends written₀ written (printed_by h (ended_lines block))

-- A run may start.
pub record Startable (b : Lent) (entries input out : List ℕ) : Type 0 where
  pub servable : Servable b entries out
  pub input_long : length input ≡ 66560

-- Between two blocks: the bucket and what is kept are what the blocks so far leave, which the reader gave, and what they print is written.
pub record BetweenBlocks (h : Lent) (entries₀ input₀ out₀ : List ℕ) (unread₀ written₀ : Option (List ℕ)) (b : Lent) (entries input out : List ℕ) (unread written : Option (List ℕ)) (kept : ℕ) : Type 0 where
  pub blocks : List (List ℕ)
  pub leads : waiting b (take kept input) ≡ after_blocks (waiting h []) blocks
  pub reads : Consumes unread₀ unread (joined blocks)
  pub writes : Appends written₀ written (written_by (waiting h []) blocks)
  pub servable : Servable b entries out
  pub entries_same : length entries ≡ length entries₀
  pub few : kept ≤ 513
  pub no_feed : contains (take kept input) 10 ≡ false
  pub input_long : length input ≡ 66560
  pub input_same : length input ≡ length input₀
  pub numbers_same : length b.numbers ≡ length h.numbers
  pub keys_same : length b.keys ≡ length h.keys
  pub out_same : length out ≡ length out₀

-- Where all output is written, the bucket is what the lines of the blocks that came leave, and what these print is all that is written; the blocks are what was read. Unless reading failed that is the whole input.
pub record Ran (told failed : Bool) (h : Lent) (unread₀ written₀ : Option (List ℕ)) (numbers keys : List ℕ) (unread written : Option (List ℕ)) : Type 0 where
  pub blocks : List (List ℕ)
  pub settings : Settings
  pub is : told ≡ true → lent settings numbers keys ≡ left_by h (lines_of (joined blocks))
  pub reads : told ≡ true → Consumes unread₀ unread (joined blocks)
  pub writes : told ≡ true → Appends written₀ written (printed_by h (lines_of (joined blocks)))
  pub at_end : told ≡ true → failed ≡ false → IsAtEnd unread
  pub whole : told ≡ true → failed ≡ false → IfSome unread₀ (λ input. Appends written₀ written (printed_by h (lines_of input)))
