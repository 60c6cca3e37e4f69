-- Periods of days and years, and when days after an instant expire.
use Rattle.std.specs.Prelude.{ℕ, ◌+◌, ◌-◌, ◌*◌, ◌/◌, ◌%◌, ◌≤◌, ◌<◌, ◌≡◌, Bool, true, false, not, ◌&&◌, eqb, ltb}
use Rattle.buffers.specs.Choices.{pick}
use Rattle.calendar.specs.declared.Civil.{Civil}
use Rattle.calendar.specs.Calendar.{latest, day, leap, year_start, days_of, year_of, civil_of}

-- ## Periods

-- the day of month m in a leap year (true) or a common year (false): for 29 February 28 February where there is none
abbrev pub day_in : Bool → ℕ → ℕ → ℕ
day_in l m d = pick (eqb m 2 && (eqb d 29 && not l)) 28 d

-- the same month and day in year y
unfoldable pub same_date_in : ℕ → Civil → Civil
same_date_in y c = record { year = y; month = c.month; day = day_in (leap y) c.month c.day }

-- the same date some years later, at the same time of day
unfoldable pub years_later : ℕ → ℕ → ℕ
years_later from years = let c = civil_of (from / day) in days_of (same_date_in (c.year + years) c) * day + from % day

-- the end of a period of days (unit 1) or years (unit 2)
unfoldable pub period_end : ℕ → ℕ → ℕ → ℕ
period_end from count unit = pick (eqb unit 2) (years_later from count) (from + count * day)

-- The date `to` is what a contract calls some years after the date `from`.
pub record YearsAfter (years : ℕ) (from to : Civil) : Type 0 where
  pub year_is_later : to.year ≡ from.year + years
  pub same_month : to.month ≡ from.month
  -- The day is the same, also on 29 February where the later year has one;
  pub same_day : (from.month ≡ 2 → from.day ≡ 29 → leap to.year ≡ true) → to.day ≡ from.day
  -- where it has none, it is 28 February.
  pub last_of_february : from.month ≡ 2 → from.day ≡ 29 → leap to.year ≡ false → to.day ≡ 28

-- Some years from an instant end at another: on that date, at the same time of day, later,
-- and after the last instant exactly where the later year is above 9999.
pub record YearsEnd (years from end : ℕ) : Type 0 where
  pub on_date : YearsAfter years (civil_of (from / day)) (civil_of (end / day))
  pub same_time : end % day ≡ from % day
  pub later : from < end
  pub is_too_late : ltb latest end ≡ ltb 9999 ((civil_of (from / day)).year + years)

-- How the code finds it: the year from whose first day the date of day n is as far as some years later, its own before 29 February, else the next.
unfoldable pub turning_year : ℕ → ℕ
turning_year n = pick (ltb (n - year_start (year_of n)) 59) (year_of n) (year_of n + 1)

-- ## Midnights UTC

-- the midnight at which the day of an instant begins
abbrev pub day_start : ℕ → ℕ
day_start t = t - t % day

-- an instant rounded up to the next midnight; one at midnight stays
abbrev pub rounded_up : ℕ → ℕ
rounded_up t = pick (eqb (t % day) 0) t (day_start t + day)

-- when days after an instant expire: the days are added, and the sum is rounded up
unfoldable pub expires_at : ℕ → ℕ → ℕ
expires_at since days = rounded_up (since + days * day)

-- The first midnight that is no earlier than an instant.
pub record FirstMidnight (from at : ℕ) : Type 0 where
  pub is_midnight : at % day ≡ 0
  pub not_earlier : from ≤ at
  pub within_a_day : at < from + day

-- A midnight that is no earlier than one instant and no later than another.
pub record MidnightBetween (from to : ℕ) : Type 0 where
  pub at : ℕ
  pub is_midnight : at % day ≡ 0
  pub not_earlier : from ≤ at
  pub no_later : at ≤ to
