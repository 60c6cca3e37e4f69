-- The fates of a small table, computed: each row's, and the one behind them as it was, as fates and as bytes.
use Rattle.std.specs.Prelude.{◌≡◌, ℕ, List, [], ◌∷◌, refl}
use Rattle.buffers.specs.Texts.{bytes}
use Rattle.calendar.specs.Periods.{expires_at}
use Rattle.model.specs.declared.Fate.TheVariants.{Stays, Goes, Gains}
use Rattle.model.specs.Fates.{same_fate, fate_byte}
use Rattle.model.specs.Rows.{Row}
use Rattle.model.specs.Settings.{Rule}
use Rattle.model.specs.Locks.{locked}
use Rattle.lifecycle.specs.Fates.{fates_after}

-- one rule for all keys: a day for current rows, two for others
abbrev rules : List Rule
rules = record { prefix = []; current_days = 1; noncurrent_days = 2 } ∷ []

-- a version of a key, made at 0, with a hold or without
abbrev version : ℕ → ℕ → Row
version n hold = record { number = n; kind = 1; created = 0; body = 0; size = 0; mode = 0; until = 0; hold = hold; key = bytes "a" }

-- the current version, one on hold, one without
abbrev table : List Row
table = version 3 0 ∷ version 2 1 ∷ version 1 0 ∷ []

pub record Examples : Type 0 where
  pub early : fates_after same_fate rules 86399999 table (Goes ∷ Goes ∷ Goes ∷ Gains ∷ []) ≡ Stays ∷ Stays ∷ Stays ∷ Gains ∷ []
  pub marked : fates_after same_fate rules 86400000 table (Goes ∷ Goes ∷ Goes ∷ Gains ∷ []) ≡ Gains ∷ Stays ∷ Stays ∷ Gains ∷ []
  pub gone : fates_after same_fate rules 172800000 table (Goes ∷ Goes ∷ Goes ∷ Gains ∷ []) ≡ Gains ∷ Stays ∷ Goes ∷ Gains ∷ []
  pub early_bytes : fates_after fate_byte rules 86399999 table (9 ∷ 9 ∷ 9 ∷ 9 ∷ []) ≡ 0 ∷ 0 ∷ 0 ∷ 9 ∷ []
  pub marked_bytes : fates_after fate_byte rules 86400000 table (9 ∷ 9 ∷ 9 ∷ 9 ∷ []) ≡ 2 ∷ 0 ∷ 0 ∷ 9 ∷ []
  pub gone_bytes : fates_after fate_byte rules 172800000 table (9 ∷ 9 ∷ 9 ∷ 9 ∷ []) ≡ 2 ∷ 0 ∷ 1 ∷ 9 ∷ []

-- each by computing
pub examples : Examples
unfolding fates_after expires_at locked
examples = record { early = refl; marked = refl; gone = refl; early_bytes = refl; marked_bytes = refl; gone_bytes = refl }
