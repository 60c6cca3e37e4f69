-- The retention of a new row, as the code answers it.
use Rattle.std.specs.Prelude.{ℕ, Result, Ok, Err, if◌then◌else◌}
use Rattle.model.specs.declared.Refusal.{Refusal}
use Rattle.model.specs.declared.Refusal.TheVariants.{DateTooLate}
use Rattle.model.specs.Requests.{Retention}
use Rattle.model.specs.Settings.{Config}
use Rattle.model.specs.Time.{new_mode, new_until}
use Rattle.model.specs.Refusals.{default_too_late}
use Rattle.locks.specs.declared.Lock.{Lock}

-- refused where the date from the default would exceed the last instant
unfoldable pub new_lock : Config → ℕ → Retention → Result Lock Refusal
new_lock s now r = if default_too_late s now r then Err DateTooLate else Ok (record { mode = new_mode s r; until = new_until s now r })
