-- Where a key's versions stand in an ordered table, and where new ones go.
use Rattle.std.specs.Prelude.{ℕ, suc, Bool, false, ◌&&◌, ◌||◌, List, [], ◌∷◌, eqb, ltb, drop}
use Rattle.std.specs.Prelude.{Option, Some, None}
use Rattle.buffers.specs.Choices.{pick, then_some}
use Rattle.buffers.specs.Lists.{same}
use Rattle.model.specs.Rows.{Row, before}
use Rattle.std.specs.Prelude.{Result}
use Rattle.std.specs.Prelude.{Ok, Err}

-- how many rows at the front pass a test
abbrev pub leading : (Row → Bool) → List Row → ℕ
leading p [] = 0
leading p (x ∷ xs) = pick (p x) (suc (leading p xs)) 0

-- the first row, if there is one
abbrev pub head_of : List Row → Option Row
head_of [] = None
head_of (x ∷ xs) = Some x

-- the row at a position
abbrev pub nth_row : List Row → ℕ → Option Row
nth_row xs i = head_of (drop i xs)

-- the position, found if the row there passes a test
abbrev pub found_if : (Row → Bool) → List Row → ℕ → Result ℕ ℕ
found_if p xs i = pick (then_some (nth_row xs i) false p) (Ok i) (Err i)

-- where a key's rows start or would start: behind the rows whose keys are before it
unfoldable pub key_place : List ℕ → List Row → ℕ
key_place k xs = leading (λ x. before x.key k) xs

-- a key's current version, which is its first row, or the place where the key belongs
unfoldable pub current_in : List ℕ → List Row → Result ℕ ℕ
current_in k xs = found_if (λ x. same x.key k) xs (key_place k xs)

-- where a key's version stands or would stand: behind the rows ahead of it
unfoldable pub version_place : List ℕ → ℕ → List Row → ℕ
version_place k v xs = leading (λ x. before x.key k || (same x.key k && ltb v x.number)) xs

-- a key's version, or the place where it belongs
unfoldable pub version_in : List ℕ → ℕ → List Row → Result ℕ ℕ
version_in k v xs = found_if (λ x. same x.key k && eqb x.number v) xs (version_place k v xs)

-- the row that a search's answer stands for
abbrev pub row_found : List Row → Result ℕ ℕ → Option Row
row_found xs (Ok i) = nth_row xs i
row_found xs (Err i) = None

-- its position
abbrev pub place_found : Result ℕ ℕ → ℕ
place_found (Ok i) = i
place_found (Err i) = i
