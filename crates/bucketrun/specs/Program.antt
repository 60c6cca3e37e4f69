-- 01, program `bucketrun`: what lines print, and what input prints that is read block by block.
use Rattle.std.specs.Prelude.{ℕ, suc, ◌≡◌, refl, List, [], ◌∷◌, ◌++◌, take, drop, replicate}
use Rattle.buffers.specs.Choices.{pick}
use Rattle.buffers.specs.Texts.{bytes}
use Rattle.text.specs.Lines.{lines_of}
use Rattle.text.specs.Keys.{contains}
use Rattle.model.specs.Run.{left, gathered}
use Rattle.bucket.specs.Whole.{Lent}
use Rattle.outcome.specs.Calls.{call}
use Rattle.outcome.specs.Outcome.{Outcome, outcome}
use Rattle.outcome.specs.Printed.{printed_of}

-- ## Lines

-- The answer buffer that a line is handed; only its length counts.
unfoldable pub answer_room : List ℕ
answer_room = replicate 65536 0

abbrev pub served_line : Lent → List ℕ → Outcome
served_line h l = outcome h (call l answer_room)

abbrev pub after_line : Lent → List ℕ → Lent
after_line h l = (served_line h l).bucket

-- What lines leave, each handed the bucket that the one before it left.
abbrev pub left_by : Lent → List (List ℕ) → Lent
left_by h ls = left after_line h ls

abbrev pub printed_line : Lent → List ℕ → List ℕ
printed_line h l = printed_of (served_line h l)

-- What they print.
abbrev pub printed_by : Lent → List (List ℕ) → List ℕ
printed_by h ls = gathered after_line printed_line h ls

-- ## Blocks

-- the bytes up to the last line feed: how many
abbrev pub ended_length : List ℕ → ℕ
ended_length [] = 0
ended_length (b ∷ s) = pick (contains (b ∷ s) 10) (suc (ended_length s)) 0

-- the lines that a line feed ends
abbrev pub ended_lines : List ℕ → List (List ℕ)
ended_lines t = lines_of (take (ended_length t) t)

-- the line that has begun behind the last line feed: its first 513 bytes are kept, which are unreadable like the whole of it
abbrev pub begun_line : List ℕ → List ℕ
begun_line t = take 513 (drop (ended_length t) t)

-- Between two reads: the bucket, and what is kept of a line that has begun.
pub record Waiting : Type 0 where
  pub bucket : Lent
  pub begun : List ℕ

abbrev pub waiting : Lent → List ℕ → Waiting
waiting h begun = record { bucket = h; begun = begun }

-- A block comes behind what is kept.
abbrev pub after_block : Waiting → List ℕ → Waiting
after_block w x = waiting (left_by w.bucket (ended_lines (w.begun ++ x))) (begun_line (w.begun ++ x))

abbrev pub after_blocks : Waiting → List (List ℕ) → Waiting
after_blocks w xs = left after_block w xs

-- at the input's end a line feed ends the line that has begun, if there is one
abbrev pub feed_ended : List ℕ → List ℕ
feed_ended [] = []
feed_ended (b ∷ s) = b ∷ s ++ 10 ∷ []

-- What blocks print as they are read; at the input's end what is kept is a line.
abbrev pub printed_blocks : Waiting → List (List ℕ) → List ℕ
printed_blocks w [] = printed_by w.bucket (lines_of w.begun)
printed_blocks w (x ∷ xs) = printed_by w.bucket (ended_lines (w.begun ++ x)) ++ printed_blocks (after_block w x) xs

-- What they print before the input's end.
abbrev pub written_by : Waiting → List (List ℕ) → List ℕ
written_by w [] = []
written_by w (x ∷ xs) = printed_by w.bucket (ended_lines (w.begun ++ x)) ++ written_by (after_block w x) xs

abbrev pub joined : List (List ℕ) → List ℕ
joined [] = []
joined (x ∷ xs) = x ++ joined xs

-- However the input is cut into blocks, it prints what its lines print.
abbrev pub CutAnywhere : Type 0
CutAnywhere = (h : Lent) (blocks : List (List ℕ)) → printed_blocks (waiting h []) blocks ≡ printed_by h (lines_of (joined blocks))

-- `x`, then `y`, two line feeds and `z`: the lines `xy` and the empty one have ended, and `z` has begun.
pub cut_inside : (h : Lent) → after_blocks (waiting h []) (bytes "x" ∷ bytes "y\n\nz" ∷ []) ≡ waiting (left_by h (bytes "xy" ∷ [] ∷ [])) (bytes "z")
cut_inside h = refl
