-- 01, "Rows and settings": the rows of the table, their order, and when a row is sound.
use Rattle.std.specs.Prelude.{ℕ, ◌≤◌, Bool, true, false, ◌&&◌, ◌||◌, List, [], ◌∷◌, eqb, leb, ltb}
use Rattle.buffers.specs.Choices.{pick}
use Rattle.buffers.specs.Lists.{all, same}
use Rattle.text.specs.Keys.{is_key}
use Rattle.calendar.specs.Calendar.{latest}

-- A row of the table.
pub record Row : Type 0 where
  pub number : ℕ
  pub kind : ℕ
  pub created : ℕ
  pub body : ℕ
  pub size : ℕ
  pub mode : ℕ
  pub until : ℕ
  pub hold : ℕ
  pub key : List ℕ

-- The kinds: 1 data, 2 delete marker.
abbrev pub is_data : Row → Bool
is_data x = eqb x.kind 1

abbrev pub is_marker : Row → Bool
is_marker x = eqb x.kind 2

-- The modes; 0 is none.
abbrev pub governance : ℕ
governance = 1

abbrev pub compliance : ℕ
compliance = 2

abbrev pub is_mode : ℕ → Bool
is_mode m = eqb m governance || eqb m compliance

-- The largest length in bytes, and the number after the largest body number.
abbrev pub largest_size : ℕ
largest_size = 5497558138880

abbrev pub bodies : ℕ
bodies = 18446744073709551616

-- ## Order

-- Key by unsigned bytes, a prefix before the longer key.
abbrev pub before : List ℕ → List ℕ → Bool
before s [] = false
before [] (b ∷ t) = true
before (a ∷ s) (b ∷ t) = ltb a b || (eqb a b && before s t)

-- Within a key, version number falling.
abbrev pub ahead : Row → Row → Bool
ahead x y = before x.key y.key || (same x.key y.key && ltb y.number x.number)

-- Each row stands before all that follow it.
abbrev pub ordered : List Row → Bool
ordered [] = true
ordered (x ∷ xs) = all (ahead x) xs && ordered xs

-- ## Soundness of a row

-- The retain-until date is 0 exactly when mode is 0.
abbrev pub sound_retention : ℕ → ℕ → Bool
sound_retention m d = pick (eqb m 0) (eqb d 0) (is_mode m && (leb 1 d && leb d latest))

abbrev pub sound_data : Row → Bool
sound_data x = ltb x.body bodies && (leb x.size largest_size && (sound_retention x.mode x.until && leb x.hold 1))

-- In a marker the last five are 0.
abbrev pub sound_marker : Row → Bool
sound_marker x = eqb x.body 0 && (eqb x.size 0 && (eqb x.mode 0 && (eqb x.until 0 && eqb x.hold 0)))

-- A row of a bucket with this next number and time: its number is below the one, its creation not after the other.
unfoldable pub sound_row : ℕ → ℕ → Row → Bool
sound_row next time x =
    leb 1 x.number
    && (ltb x.number next
    && (leb x.created time
    && (is_key x.key
    && pick (is_data x) (sound_data x) (is_marker x && sound_marker x))))

-- Both dates of a row are instants, as those of a sound row of a bucket are.
pub record Dated (x : Row) : Type 0 where
  pub created : x.created ≤ latest
  pub until : x.until ≤ latest
