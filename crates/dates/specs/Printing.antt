-- The text of an instant, as `2020-08-10T21:46:00.000Z`: 24 bytes.
use Rattle.std.specs.Prelude.{ℕ, ◌+◌, ◌*◌, ◌/◌, ◌%◌, ◌≡◌, true, false, List, [], ◌∷◌, ◌++◌, take, drop}
use Rattle.std.specs.Prelude.{Some}
use Rattle.buffers.specs.Texts.{bytes}
use Rattle.calendar.specs.declared.Civil.{Civil}
use Rattle.calendar.specs.Calendar.{day, leap, civil_of}
use Rattle.dates.specs.Reading.{four_digits}

-- the last digit of n, as a byte
abbrev pub last_digit : ℕ → ℕ
last_digit n = 48 + n % 10

-- the last two digits of n
abbrev pub last_two : ℕ → List ℕ
last_two n = last_digit (n / 10) ∷ last_digit n ∷ []

-- the last three digits of n
abbrev pub last_three : ℕ → List ℕ
last_three n = last_digit (n / 100) ∷ last_two n

-- the last four digits of n
abbrev pub last_four : ℕ → List ℕ
last_four n = last_digit (n / 1000) ∷ last_three n

-- the two digits of n, which is at most 99, as a word of two bytes, the tens in the low one
abbrev pub digit_pair : ℕ → ℕ
digit_pair n = 48 + n / 10 + 256 * (48 + n % 10)

-- the text of a date and a time of day in milliseconds
unfoldable pub date_text : Civil → ℕ → List ℕ
date_text c t =
    last_four c.year ++ bytes "-" ++ last_two c.month ++ bytes "-" ++ last_two c.day ++ bytes "T"
    ++ last_two (t / 1000 / 60 / 60) ++ bytes ":" ++ last_two (t / 1000 / 60 % 60) ++ bytes ":" ++ last_two (t / 1000 % 60)
    ++ bytes "." ++ last_three (t % 1000) ++ bytes "Z"

-- the text of an instant
unfoldable pub print_date : ℕ → List ℕ
print_date t = date_text (civil_of (t / day)) (t % day)

-- The text `to` is what a contract calls some years after the text `from`.
pub record PrintedYearsAfter (years : ℕ) (from to : List ℕ) : Type 0 where
  -- The first four digits are the later year's.
  pub year_is_later : (y : ℕ) → four_digits from 0 ≡ Some y → four_digits to 0 ≡ Some (y + years)
  -- All behind them stays, also on 29 February where the later year has one;
  pub same_rest : (y : ℕ) → four_digits to 0 ≡ Some y → (take 6 (drop 4 from) ≡ bytes "-02-29" → leap y ≡ true) → drop 4 to ≡ drop 4 from
  -- where it has none, it is 28 February.
  pub last_of_february : (y : ℕ) → four_digits to 0 ≡ Some y → take 6 (drop 4 from) ≡ bytes "-02-29" → leap y ≡ false → drop 4 to ≡ bytes "-02-28" ++ drop 10 from
