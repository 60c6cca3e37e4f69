-- The ends of periods, and when days expire, as theorems about the definitions.
use Rattle.std.specs.Prelude.{◌≡◌, refl}
use Rattle.calendar.specs.Calendar.{leap, years_length, month_start, days_of, guess_of, year_of, month_of, date_in, civil_of}
use Rattle.calendar.specs.Periods.{same_date_in, years_later, turning_year, period_end, expires_at}

pub record Shown : Type 0 where
  pub one_day : period_end 1709251200000 1 1 ≡ 1709337600000
  -- 1970-01-01T00:00:00Z with 100 years: 2070-01-01T00:00:00Z
  pub hundred_years : period_end 0 100 2 ≡ 3155760000000
  -- 2024-02-29T10:30:00Z with 1, 4 and 76 years: 2025-02-28, 2028-02-29 and 2100-02-28, each at 10:30
  pub no_leap_day : period_end 1709202600000 1 2 ≡ 1740738600000
  pub leap_day : period_end 1709202600000 4 2 ≡ 1835433000000
  pub no_leap_century : period_end 1709202600000 76 2 ≡ 4107493800000
  -- 2023-02-28T10:30:00Z with 1 year: 2024-02-28T10:30:00Z
  pub day_before : period_end 1677580200000 1 2 ≡ 1709116200000
  -- 9899-12-31T23:59:59.999Z with 100 years: the last instant; 1 ms later it is exceeded
  pub last_end : period_end 250246627199999 100 2 ≡ 253402300799999
  pub past_last : period_end 250246627200000 100 2 ≡ 253402300800000
  -- 2024-02-28 and 2024-02-29
  pub own_year : turning_year 19781 ≡ 2024
  pub next_year : turning_year 19782 ≡ 2025
  -- 2024-05-01T10:30:00Z with 3 days: 2024-05-05T00:00:00Z
  pub three_days : expires_at 1714559400000 3 ≡ 1714867200000
  -- from 2024-05-01T00:00:00.000Z and .001: the same midnight three days on, and the next
  pub at_midnight : expires_at 1714521600000 3 ≡ 1714780800000
  pub after_midnight : expires_at 1714521600001 3 ≡ 1714867200000

pub shown : Shown
unfolding leap years_length month_start days_of guess_of year_of month_of date_in civil_of same_date_in years_later turning_year period_end expires_at
shown =
    record {
      one_day = refl;
      hundred_years = refl;
      no_leap_day = refl;
      leap_day = refl;
      no_leap_century = refl;
      day_before = refl;
      last_end = refl;
      past_last = refl;
      own_year = refl;
      next_year = refl;
      three_days = refl;
      at_midnight = refl;
      after_midnight = refl;
    }
