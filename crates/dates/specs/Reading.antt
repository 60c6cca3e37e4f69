-- What a date's text says, as `2020-08-10T21:46:00.123Z`. What can't be read is `none`.
use Rattle.std.specs.Prelude.{ℕ, ◌+◌, ◌-◌, ◌*◌, List, length, get_or, take, drop, ltb, eqb}
use Rattle.std.specs.Prelude.{Option, Some, None}
use Rattle.buffers.specs.Choices.{pick, then_some}
use Rattle.buffers.specs.Lists.{all}
use Rattle.text.specs.Numbers.{is_digit}
use Rattle.calendar.specs.declared.Civil.{Civil}
use Rattle.calendar.specs.Calendar.{day, valid_day, days_of}

-- ## Digits

-- the value of a digit
unfoldable pub digit_of : ℕ → Option ℕ
digit_of b = pick (is_digit b) (Some (b - 48)) None

-- the number that two digits from a place on spell
unfoldable pub two_digits : List ℕ → ℕ → Option ℕ
two_digits s at = then_some (digit_of (get_or s at 0)) None (λ a. then_some (digit_of (get_or s (at + 1) 0)) None (λ b. Some (a * 10 + b)))

-- the number that four digits from a place on spell
unfoldable pub four_digits : List ℕ → ℕ → Option ℕ
four_digits s at = then_some (two_digits s at) None (λ a. then_some (two_digits s (at + 2)) None (λ b. Some (a * 100 + b)))

-- ## The day

-- the days from 1970-01-01 to a date that the calendar has
unfoldable pub day_number : Civil → Option ℕ
day_number c = pick (valid_day c) (Some (days_of c)) None

-- the day that a text's first ten bytes say: year, `-`, month, `-`, day
unfoldable pub day_at : List ℕ → Option ℕ
day_at s =
    pick (eqb (get_or s 4 0) 45)
    (pick (eqb (get_or s 7 0) 45)
    (then_some (four_digits s 0) None (λ y.
    then_some (two_digits s 5) None (λ m.
    then_some (two_digits s 8) None (λ d.
    day_number (record { year = y; month = m; day = d })))))
    None) None

-- ## The time of day

-- the second of the day, where the clock has that time
unfoldable pub second_of_day : ℕ → ℕ → ℕ → Option ℕ
second_of_day h m s = pick (ltb 23 h) None (pick (ltb 59 m) None (pick (ltb 59 s) None (Some ((h * 60 + m) * 60 + s))))

-- the second of the day that the eight bytes from place 11 on say: hour, `:`, minute, `:`, second
unfoldable pub second_at : List ℕ → Option ℕ
second_at s =
    pick (eqb (get_or s 13 0) 58)
    (pick (eqb (get_or s 16 0) 58)
    (then_some (two_digits s 11) None (λ hour.
    then_some (two_digits s 14) None (λ minute.
    then_some (two_digits s 17) None (λ second.
    second_of_day hour minute second))))
    None) None

-- the value of the digit at a place, 0 where it is missing
unfoldable pub fraction_digit : List ℕ → ℕ → ℕ
fraction_digit ds i = pick (ltb i (length ds)) (get_or ds i 0 - 48) 0

-- the milliseconds that 1 to 9 digits say: the first three count, missing ones are zero
unfoldable pub milliseconds : List ℕ → Option ℕ
milliseconds ds =
    pick (ltb (length ds) 1) None
    (pick (ltb 9 (length ds)) None
    (pick (all is_digit ds)
    (Some (fraction_digit ds 0 * 100 + fraction_digit ds 1 * 10 + fraction_digit ds 2))
    None))

-- what stands between the seconds and the `Z`: nothing, or a point and digits
unfoldable pub fraction_of : List ℕ → Option ℕ
fraction_of f = pick (ltb (length f) 1) (Some 0) (pick (eqb (get_or f 0 0) 46) (milliseconds (drop 1 f)) None)

-- ## The date

-- the instant that a date's text says: day, `T`, time of day, fraction, `Z`
unfoldable pub read_date : List ℕ → Option ℕ
read_date s =
    pick (ltb (length s) 20) None
    (pick (eqb (get_or s 10 0) 84)
    (pick (eqb (get_or s (length s - 1) 0) 90)
    (then_some (day_at s) None (λ d.
    then_some (second_at s) None (λ t.
    then_some (fraction_of (take (length s - 1 - 19) (drop 19 s))) None (λ f.
    Some (d * day + t * 1000 + f)))))
    None) None)
