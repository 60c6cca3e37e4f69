-- Document 02, M-102: which rows a SWEEP marks and removes, told by midnights.
use Rattle.std.specs.Prelude.{ℕ, ◌+◌, ◌*◌, max, ◌≡◌, true, false, List, ◌∷◌, ◌++◌, get_or}
use Rattle.std.specs.Prelude.{Some, None}
use Rattle.buffers.specs.Lists.{begins}
use Rattle.calendar.specs.Calendar.{day}
use Rattle.calendar.specs.Periods.{MidnightBetween}
use Rattle.model.specs.Rows.{Row}
use Rattle.model.specs.Settings.{Rule, Bucket, absent_rule}
use Rattle.model.specs.Requests.{numbered, Name, name}
use Rattle.model.specs.Locks.{locked}
use Rattle.model.specs.Sweep.{marker}
use Rattle.model.specs.Effects.{row_of}

-- By the rule at some place the days have expired since an instant: its prefix begins the key, it has days, and a midnight has come that is no earlier than the instant plus the days.
pub record Expired (days : Rule → ℕ) (rules : List Rule) (k : List ℕ) (since now : ℕ) : Type 0 where
  pub place : ℕ
  pub begins_key : begins (get_or rules place absent_rule).prefix k ≡ true
  pub has_days : days (get_or rules place absent_rule) ≡ 0 → ⊥
  pub has_come : MidnightBetween (since + days (get_or rules place absent_rule) * day) now

-- A row by its key and number, and by its key alone, which names the current one.
abbrev pub by_number : Row → Name
by_number x = name x.key (Some (numbered x.number))

abbrev pub by_key : Row → Name
by_key x = name x.key None

-- What a SWEEP with this clock makes of each row of the bucket before it.
module _ (clock : ℕ) (before after : Bucket) where
  abbrev rules : List Rule
  rules = before.settings.config.rules

  abbrev now : ℕ
  now = max before.settings.time clock

  -- The current days have expired since the row's creation.
  abbrev pub CurrentExpired : Row → Type 0
  CurrentExpired x = Expired (λ u. u.current_days) rules x.key x.created now

  -- The noncurrent days have expired since the creation of the next newer row of its key.
  abbrev pub NoncurrentExpired : Row → Row → Type 0
  NoncurrentExpired newer x = Expired (λ u. u.noncurrent_days) rules x.key newer.created now

  pub record SweptByMidnights : Type 0 where
    -- A key's current row stays in the table.
    pub current_kept : (x : Row) → row_of before.rows (by_key x) ≡ Some x → row_of after.rows (by_number x) ≡ Some x
    -- Where it is data and its days have expired, a marker is current, created now.
    pub current_marked : (x : Row) → row_of before.rows (by_key x) ≡ Some x → x.kind ≡ 1 → CurrentExpired x → (n : ℕ) × (row_of after.rows (by_key x) ≡ Some (marker now n x.key))
    -- Else it stays current.
    pub current_stays : (x : Row) → row_of before.rows (by_key x) ≡ Some x → (x.kind ≡ 1 → CurrentExpired x → ⊥) → row_of after.rows (by_key x) ≡ Some x
    -- A row right behind the next newer one of its key goes, where its days have expired and it isn't locked.
    pub noncurrent_goes : (early late : List Row) (newer x : Row) → before.rows ≡ early ++ newer ∷ x ∷ late → newer.key ≡ x.key
        → NoncurrentExpired newer x → locked now false x ≡ false → row_of after.rows (by_number x) ≡ None
    -- Else it stays.
    pub noncurrent_stays : (early late : List Row) (newer x : Row) → before.rows ≡ early ++ newer ∷ x ∷ late → newer.key ≡ x.key
        → (NoncurrentExpired newer x → locked now false x ≡ false → ⊥) → row_of after.rows (by_number x) ≡ Some x
