-- 01, SWEEP: days that are over, that is, have expired.
use Rattle.std.specs.Prelude.{ℕ, Bool, false, ◌&&◌, ◌==◌, nat_le}
use Rattle.buffers.specs.Choices.{pick}
use Rattle.calendar.specs.Periods.{expires_at}
use Rattle.model.specs.Settings.{Rule, is_days}

-- the days stand for an action, and they are over since an instant
unfoldable pub over : ℕ → ℕ → ℕ → Bool
over days since now = pick (days == 0) false (nat_le (expires_at since days) now)

-- the days of a rule are at most 36500
abbrev pub few_days : Rule → Bool
few_days u = is_days u.current_days && is_days u.noncurrent_days
