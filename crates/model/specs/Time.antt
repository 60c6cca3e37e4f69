-- 01, "Time and dates" and PUT: the now of a line, and the retention that a new row gets.
use Rattle.std.specs.Prelude.{ℕ, max}
use Rattle.buffers.specs.Choices.{pick, then_some, or_zero}
use Rattle.calendar.specs.declared.Now.{Now}
use Rattle.calendar.specs.Periods.{period_end}
use Rattle.model.specs.Settings.{Bucket, Config, has_default}
use Rattle.model.specs.Requests.{Context, Retention}

-- The larger of the bucket's time and the line's reading, to judge by and to stamp with.
abbrev pub now_at : ℕ → ℕ → Now
now_at time clock = record { judge = max time clock; stamp = max time clock }

-- The now of a line.
abbrev pub now_of : Bucket → Context → Now
now_of b g = now_at b.settings.time g.clock

-- The date from the default: now plus its period.
unfoldable pub default_end : Config → ℕ → ℕ
default_end s now = period_end now s.default.count s.default.unit

-- The mode and the date of a new row: those given, or, with no mode given, the default's.
abbrev pub new_mode : Config → Retention → ℕ
new_mode s r = then_some r.mode s.default.mode (λ m. m)

abbrev pub new_until : Config → ℕ → Retention → ℕ
new_until s now r = then_some r.mode (pick (has_default s.default) (default_end s now) 0) (λ m. or_zero r.date)
