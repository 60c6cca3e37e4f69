-- The fields of a line, parted by tabs (0x09), and where they stand in it.
use Rattle.std.specs.Prelude.{ℕ, zero, suc, ◌+◌, ◌-◌, ◌≤◌, ◌<◌, ◌≡◌, List, [], ◌∷◌, ◌++◌, eqb, length, get_or, take, drop}
use Rattle.buffers.specs.Choices.{pick}
use Rattle.text.specs.declared.Place.{Place}

-- the first field with one byte more at its front
abbrev pub on_first : ℕ → List (List ℕ) → List (List ℕ)
on_first b [] = (b ∷ []) ∷ []
on_first b (f ∷ fs) = (b ∷ f) ∷ fs

-- the fields of a line: a tab ends one, every other byte belongs to one
abbrev pub fields : List ℕ → List (List ℕ)
fields [] = [] ∷ []
fields (b ∷ s) = pick (eqb b 9) ([] ∷ fields s) (on_first b (fields s))

-- fields, each behind a tab
abbrev pub tabbed : List (List ℕ) → List ℕ
tabbed [] = []
tabbed (f ∷ fs) = 9 ∷ f ++ tabbed fs

-- field i, counted from 0; empty where the line has fewer
unfoldable pub field_of : List ℕ → ℕ → List ℕ
field_of s i = get_or (fields s) i []

-- 1 for a tab, 0 for any other byte
abbrev pub tab_at : ℕ → ℕ
tab_at b = pick (eqb b 9) 1 0

-- the tabs of a line, one fewer than its fields
abbrev pub tabs_in : List ℕ → ℕ
tabs_in [] = 0
tabs_in (b ∷ s) = tab_at b + tabs_in s

-- where field i starts: behind i tabs, or at the line's end
abbrev pub start_of : List ℕ → ℕ → ℕ
start_of [] i = 0
start_of (b ∷ s) zero = 0
start_of (b ∷ s) (suc i) = suc (start_of s (suc i - tab_at b))

-- where field i ends: before the next tab, or at the line's end
abbrev pub end_of : List ℕ → ℕ → ℕ
end_of [] i = 0
end_of (b ∷ s) zero = pick (eqb b 9) 0 (suc (end_of s 0))
end_of (b ∷ s) (suc i) = suc (end_of s (suc i - tab_at b))

-- the place of field i
unfoldable pub place_of : List ℕ → ℕ → Place
place_of s i = record { start = start_of s i; len = length (field_of s i) }

-- the part of a line at a place
abbrev pub part_of : List ℕ → Place → List ℕ
part_of s p = take p.len (drop p.start s)

-- a line is parted: where its first nine fields end, and the count of its tabs
pub record Split (s ends : List ℕ) (tabs : ℕ) : Type 0 where
  pub long : length ends ≡ 9
  pub ended : (i : ℕ) → i < 9 → get_or ends i 0 ≡ end_of s i
  pub count : tabs ≡ tabs_in s

-- i bytes of the line are passed, with n tabs among them: the fields that have ended are marked, the others are left at the line's end
pub record Marking (s : List ℕ) (i n : ℕ) (m : List ℕ) : Type 0 where
  pub within : i ≤ length s
  pub few : n ≤ i
  pub long : length m ≡ 9
  pub count : tabs_in s ≡ n + tabs_in (drop i s)
  pub ended : (j : ℕ) → j < 9 → j < n → get_or m j 0 ≡ end_of s j
  pub left : (j : ℕ) → j < 9 → n ≤ j → get_or m j 0 ≡ length s
  pub rest : (j : ℕ) → n ≤ j → end_of s j ≡ i + end_of (drop i s) (j - n)

-- a part of the line that has at most k bytes
pub record Piece (s : List ℕ) (start end k : ℕ) : Type 0 where
  pub from : start ≤ end
  pub to : end ≤ length s
  pub most : end ≤ start + k
