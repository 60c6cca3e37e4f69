-- The lines of a text, parted by line feeds (0x0A).
use Rattle.std.specs.Prelude.{ℕ, suc, List, [], ◌∷◌, eqb, take}
use Rattle.buffers.specs.Choices.{pick}
use Rattle.text.specs.Fields.{on_first}

-- a line feed ends a line; bytes after the last line feed, if any, are a line
abbrev pub lines_of : List ℕ → List (List ℕ)
lines_of [] = []
lines_of (b ∷ s) = pick (eqb b 10) ([] ∷ lines_of s) (on_first b (lines_of s))

-- the bytes before the first line feed: how many
abbrev pub feed_at : List ℕ → ℕ
feed_at [] = 0
feed_at (b ∷ s) = pick (eqb b 10) 0 (suc (feed_at s))

-- the bytes before the first line feed
abbrev pub first_line : List ℕ → List ℕ
first_line s = take (feed_at s) s
