-- A page as it is read off an answer buffer: nothing is used but the buffer's bytes.
use Rattle.std.specs.Prelude.{ℕ, List, [], ◌∷◌, get_or, take, drop}
use Rattle.buffers.specs.Choices.{or_zero}
use Rattle.text.specs.Numbers.{number_of}
use Rattle.text.specs.Fields.{field_of}
use Rattle.text.specs.Lines.{lines_of}
use Rattle.model.specs.Requests.{largest_count}

-- the number of rows that the first line says
unfoldable pub rows_said : List ℕ → ℕ
rows_said t = or_zero (number_of largest_count (field_of (get_or (lines_of t) 0 []) 1))

-- the lines behind the first, as many as it says; what stands behind them in the buffer plays no part
unfoldable pub lines_shown : List ℕ → List (List ℕ)
lines_shown t = take (rows_said t) (drop 1 (lines_of t))

-- the last of some lines; empty where there is none
abbrev pub last_line : List (List ℕ) → List ℕ
last_line [] = []
last_line (l ∷ []) = l
last_line (l ∷ m ∷ ls) = last_line (m ∷ ls)

-- the key and the version in the last line that a page shows, as they stand there
unfoldable pub last_key : List ℕ → List ℕ
last_key t = field_of (last_line (lines_shown t)) 0

unfoldable pub last_version : List ℕ → List ℕ
last_version t = field_of (last_line (lines_shown t)) 1
