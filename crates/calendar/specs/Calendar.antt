-- The Gregorian calendar of the years 1970 to 9999: leap years, months by the twelve-entry table, days since 1970-01-01.
use Rattle.std.specs.Prelude.{ℕ, zero, suc, ◌+◌, ◌-◌, ◌*◌, ◌/◌, ◌%◌, ◌≤◌, Bool, true, false, List, [], ◌∷◌, get_or, ltb, leb, eqb}
use Rattle.buffers.specs.Choices.{pick}
use Rattle.calendar.specs.declared.Civil.{Civil}

-- the last instant, in milliseconds since 1970-01-01T00:00:00Z
abbrev pub latest : ℕ
latest = 253402300799999

-- the milliseconds of a day
abbrev pub day : ℕ
day = 86400000

-- ## Years

-- a leap year
unfoldable pub leap : ℕ → Bool
leap y = pick (eqb (y % 4) 0) (pick (eqb (y % 100) 0) (eqb (y % 400) 0) true) false

-- the days of a leap year (true) and of a common year (false)
abbrev pub year_length : Bool → ℕ
year_length l = pick l 366 365

-- the days of the first n years from 1970 on
unfoldable pub years_length : ℕ → ℕ
years_length zero = 0
years_length (suc n) = years_length n + year_length (leap (1970 + n))

-- the days from 1970-01-01 to the first day of year y
abbrev pub year_start : ℕ → ℕ
year_start y = years_length (y - 1970)

-- ## Months

-- the days before each month in a common year
abbrev pub month_table : List ℕ
month_table = 0 ∷ 31 ∷ 59 ∷ 90 ∷ 120 ∷ 151 ∷ 181 ∷ 212 ∷ 243 ∷ 273 ∷ 304 ∷ 334 ∷ []

-- the days before month m, 1 to 12, in a common year
abbrev pub common_start : ℕ → ℕ
common_start m = get_or month_table (m - 1) 0

-- the days before month m; a leap year has one more before March and the later ones
unfoldable pub month_start : Bool → ℕ → ℕ
month_start l m = pick l (pick (ltb 2 m) (common_start m + 1) (common_start m)) (common_start m)

-- the days of month m
unfoldable pub month_length : Bool → ℕ → ℕ
month_length l m = pick (ltb m 12) (month_start l (m + 1) - month_start l m) (year_length l - month_start l m)

-- ## Days

-- a day of the years 1970 to 9999
unfoldable pub valid_day : Civil → Bool
valid_day c =
    pick (ltb c.year 1970) false
    (pick (ltb 9999 c.year) false
    (pick (ltb c.month 1) false
    (pick (ltb 12 c.month) false
    (pick (ltb c.day 1) false
    (leb c.day (month_length (leap c.year) c.month))))))

-- what each valid day satisfies, enough for its days to be counted
pub record Bounded (c : Civil) : Type 0 where
  pub from : 1970 ≤ c.year
  pub to : c.year ≤ 9999
  pub first : 1 ≤ c.month
  pub last : c.month ≤ 12
  pub one : 1 ≤ c.day
  pub most : c.day ≤ 31

-- the days from 1970-01-01 to a date
unfoldable pub days_of : Civil → ℕ
days_of c = year_start c.year + month_start (leap c.year) c.month + (c.day - 1)

-- ## The date of a day

-- the year of day n, by the mean Julian year, which is right or one too low
unfoldable pub guess_of : ℕ → ℕ
guess_of n = 1970 + n * 4 / 1461

-- the year of day n
unfoldable pub year_of : ℕ → ℕ
year_of n = pick (ltb n (year_start (guess_of n + 1))) (guess_of n) (guess_of n + 1)

-- the month of a year's day n, which counts from 0: months of 31 days are right or one too low
unfoldable pub month_of : Bool → ℕ → ℕ
month_of l n =
    pick (ltb 11 (n / 31 + 1)) (n / 31 + 1) (pick (ltb n (month_start l (n / 31 + 1 + 1))) (n / 31 + 1) (n / 31 + 1 + 1))

-- the date of a year's day n, which counts from 0
unfoldable pub date_in : ℕ → ℕ → Civil
date_in y n = record { year = y; month = month_of (leap y) n; day = n - month_start (leap y) (month_of (leap y) n) + 1 }

-- the date of day n since 1970-01-01
unfoldable pub civil_of : ℕ → Civil
civil_of n = date_in (year_of n) (n - year_start (year_of n))
