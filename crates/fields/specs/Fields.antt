-- The values of a request line's fields, as the code holds them; Meaning says what they stand for. A field that can't be read is `None`, a `-` is `Some None`.
use Rattle.std.specs.Prelude.{ℕ, ◌-◌, Bool, true, false, not, ◌&&◌, List, [], ◌∷◌, length, get_or, take, ◌==◌, if◌then◌else◌}
use Rattle.std.specs.Prelude.{Option, Some, None}
use Rattle.buffers.specs.Choices.{pick, ◌>>=◌}
use Rattle.buffers.specs.Lists.{same}
use Rattle.buffers.specs.Texts.{bytes}
use Rattle.text.specs.declared.Place.{Place}
use Rattle.text.specs.Fields.{field_of, place_of}
use Rattle.text.specs.Numbers.{positive_of}
use Rattle.text.specs.Keys.{is_key, is_prefix, contains}
use Rattle.dates.specs.Reading.{read_date}
use Rattle.model.specs.Settings.{largest_number}
use Rattle.model.specs.declared.Mode.{Mode}
use Rattle.model.specs.declared.Mode.TheVariants.{Governance, Compliance}
use Rattle.fields.specs.declared.Rights.{Rights}
use Rattle.fields.specs.declared.Period.{Period}
use Rattle.fields.specs.declared.Period.TheVariants.{Days, Years}

abbrev pub dash : List ℕ
dash = bytes "-"

-- ## Rights

-- letters of rights, each at most once
abbrev pub letters_once : List ℕ → Bool
letters_once [] = true
letters_once (b ∷ s) = pick (contains (bytes "rwdthbc") b) (pick (contains s b) false (letters_once s)) false

-- the letters that stand in a text
unfoldable pub rights_in : List ℕ → Rights
rights_in s = record { r = contains s 114; w = contains s 119; d = contains s 100; t = contains s 116; h = contains s 104; b = contains s 98; c = contains s 99 }

-- the rights with one more letter, none where that is no letter of rights or is held already
unfoldable pub with_letter : Rights → ℕ → Option Rights
with_letter a b =
    if b == 114 && not a.r then Some (record { r = true; w = a.w; d = a.d; t = a.t; h = a.h; b = a.b; c = a.c })
    else (if b == 119 && not a.w then Some (record { r = a.r; w = true; d = a.d; t = a.t; h = a.h; b = a.b; c = a.c })
    else (if b == 100 && not a.d then Some (record { r = a.r; w = a.w; d = true; t = a.t; h = a.h; b = a.b; c = a.c })
    else (if b == 116 && not a.t then Some (record { r = a.r; w = a.w; d = a.d; t = true; h = a.h; b = a.b; c = a.c })
    else (if b == 104 && not a.h then Some (record { r = a.r; w = a.w; d = a.d; t = a.t; h = true; b = a.b; c = a.c })
    else (if b == 98 && not a.b then Some (record { r = a.r; w = a.w; d = a.d; t = a.t; h = a.h; b = true; c = a.c })
    else (if b == 99 && not a.c then Some (record { r = a.r; w = a.w; d = a.d; t = a.t; h = a.h; b = a.b; c = true }) else None))))))

-- `-`, or some of the letters
unfoldable pub read_rights : List ℕ → Option Rights
read_rights s =
    if same s dash then Some (rights_in s)
    else (if length s == 0 then None
    else (if letters_once s then Some (rights_in s) else None))

-- ## The other fields

-- a key in field i of a line: the field's place
unfoldable pub read_key : List ℕ → ℕ → Option Place
read_key s i = if is_key (field_of s i) then Some (place_of s i) else None

-- a prefix in field i of a line
unfoldable pub read_prefix : List ℕ → ℕ → Option Place
read_prefix s i = if is_prefix (field_of s i) then Some (place_of s i) else None

-- a version number, or `-`
unfoldable pub read_version : List ℕ → Option (Option ℕ)
read_version s =
    if same s dash then Some None
    else (do
      n ← positive_of largest_number s
      Some (Some n))

-- GOVERNANCE, COMPLIANCE or `-`
unfoldable pub read_mode : List ℕ → Option (Option Mode)
read_mode s =
    if same s dash then Some None
    else (if same s (bytes "GOVERNANCE") then Some (Some Governance)
    else (if same s (bytes "COMPLIANCE") then Some (Some Compliance) else None))

-- a date or `-`
unfoldable pub read_until : List ℕ → Option (Option ℕ)
read_until s =
    if same s dash then Some None
    else (do
      t ← read_date s
      Some (Some t))

-- one of two words, true for the first
abbrev pub read_either : List ℕ → List ℕ → List ℕ → Option Bool
read_either first second s =
    if same s first then Some true
    else (if same s second then Some false else None)

-- ON or OFF
unfoldable pub read_switch : List ℕ → Option Bool
read_switch s = read_either (bytes "ON") (bytes "OFF") s

-- ON, OFF or `-`
unfoldable pub read_hold : List ℕ → Option (Option Bool)
read_hold s =
    if same s dash then Some None
    else (do
      on ← read_switch s
      Some (Some on))

-- yes or no
unfoldable pub read_bypass : List ℕ → Option Bool
read_bypass s = read_either (bytes "yes") (bytes "no") s

-- a count of at most k before a unit's letter
abbrev pub count_of : ℕ → (ℕ → Period) → List ℕ → Option (Option Period)
count_of k unit s = do
  n ← positive_of k (take (length s - 1) s)
  Some (Some (unit n))

-- `1d` to `36500d`, `1y` to `100y`, or `-`
unfoldable pub read_period : List ℕ → Option (Option Period)
read_period s =
    if same s dash then Some None
    else (if length s == 0 then None
    else (if get_or s (length s - 1) 0 == 100 then count_of 36500 Days s
    else (if get_or s (length s - 1) 0 == 121 then count_of 100 Years s else None)))
