-- Document 02, M-104: the row that a PUT or COPY makes by a default of years, and the year in which it is kept to the end.
use Rattle.std.specs.Prelude.{ℕ, ◌+◌, ◌/◌, ◌≤◌, max, ◌≡◌, List}
use Rattle.calendar.specs.Calendar.{latest, day, civil_of}
use Rattle.calendar.specs.Periods.{YearsEnd}
use Rattle.model.specs.Rows.{Row}
use Rattle.model.specs.Settings.{Default, Bucket, years}
use Rattle.model.specs.Effects.{insert_by_key}

abbrev pub default_of : Bucket → Default
default_of b = b.settings.config.default

-- The default retention counts years.
abbrev pub CountsYears : Bucket → Type 0
CountsYears b = (default_of b).unit ≡ years

module _ (clock : ℕ) (before : Bucket) where
  abbrev now : ℕ
  now = max before.settings.time clock

  -- The year of now, and the default's years.
  abbrev pub later_year : ℕ
  later_year = (civil_of (now / day)).year + (default_of before).count

  -- One row was added: of this key, with the next number, created now, under the default's mode, until the default's years end.
  pub record MadeForYears (key : List ℕ) (after : Bucket) : Type 0 where
    pub row : Row
    pub is_added : after.rows ≡ insert_by_key row before.rows
    pub key_is : row.key ≡ key
    pub number_is : row.number ≡ before.settings.next
    pub created_now : row.created ≡ now
    pub mode_is : row.mode ≡ (default_of before).mode
    pub ends : YearsEnd (default_of before).count row.created row.until
    pub in_time : row.until ≤ latest
