-- The paper's examples of dates, as theorems about the definitions.
use Rattle.std.specs.Prelude.{◌%◌, ◌≡◌, refl, true, false}
use Rattle.std.specs.Prelude.{Some, None}
use Rattle.buffers.specs.Texts.{bytes}
use Rattle.buffers.specs.Words.{number}
use Rattle.text.specs.Numbers.{is_digit}
use Rattle.calendar.specs.Calendar.{leap, years_length, month_start, month_length, valid_day, days_of, guess_of, year_of, month_of, date_in, civil_of}
use Rattle.dates.specs.Reading.{digit_of, two_digits, four_digits, day_number, day_at, second_of_day, second_at, fraction_digit, milliseconds, fraction_of, read_date}
use Rattle.dates.specs.Pairs.{apart, is_pairs, pairs_of}
use Rattle.dates.specs.Printing.{digit_pair, date_text, print_date}

-- the starred date examples
pub record Starred : Type 0 where
  pub epoch : read_date (bytes "1970-01-01T00:00:00Z") ≡ Some 0
  pub leap_day : read_date (bytes "2000-02-29T00:00:00Z") ≡ Some 951782400000
  pub document : read_date (bytes "2020-08-10T21:46:00Z") ≡ Some 1597095960000
  pub last : read_date (bytes "9999-12-31T23:59:59.999Z") ≡ Some 253402300799999
  pub no_leap_day : read_date (bytes "2100-02-29T00:00:00Z") ≡ None
  pub second60 : read_date (bytes "2016-12-31T23:59:60Z") ≡ None
  pub fraction : read_date (bytes "1970-01-01T00:00:00.1239Z") ≡ Some 123

pub starred : Starred
unfolding is_digit leap years_length month_start month_length valid_day days_of digit_of two_digits four_digits day_number day_at second_of_day second_at fraction_digit milliseconds fraction_of read_date
starred =
    record {
      epoch = refl;
      leap_day = refl;
      document = refl;
      last = refl;
      no_leap_day = refl;
      second60 = refl;
      fraction = refl;
    }

-- a printed date
pub shown : print_date 1709337600000 ≡ bytes "2024-03-02T00:00:00.000Z"
unfolding leap years_length month_start guess_of year_of month_of date_in civil_of date_text print_date
shown = refl

-- three pairs at once: the hour, and what is no time
pub record AtOnce : Type 0 where
  pub time : is_pairs (apart (bytes "12:34:56") 0 0x30303a30303a3030) ≡ true
  pub hour : pairs_of (apart (bytes "12:34:56") 0 0x30303a30303a3030) % 256 ≡ 12
  pub no_digit : is_pairs (apart (bytes "12:3x:56") 0 0x30303a30303a3030) ≡ false
  pub tens_first : digit_pair 42 ≡ number (bytes "42")

pub at_once : AtOnce
unfolding apart is_pairs pairs_of number
at_once = record { time = refl; hour = refl; no_digit = refl; tens_first = refl }
