-- 01, "Rows and settings": the settings, the bucket, and when the whole is sound.
use Rattle.std.specs.Prelude.{ℕ, Bool, not, ◌&&◌, ◌||◌, List, [], eqb, leb, length, replicate}
use Rattle.buffers.specs.Lists.{all}
use Rattle.text.specs.Keys.{is_prefix}
use Rattle.calendar.specs.Calendar.{latest}
use Rattle.model.specs.Rows.{Row, is_mode, ordered, sound_row}

-- A lifecycle rule; 0 days stand for no action.
pub record Rule : Type 0 where
  pub prefix : List ℕ
  pub current_days : ℕ
  pub noncurrent_days : ℕ

-- The default retention; all zero for none.
pub record Default : Type 0 where
  pub mode : ℕ
  pub count : ℕ
  pub unit : ℕ

-- What verbs set.
pub record Config : Type 0 where
  pub default : Default
  pub rules : List Rule

pub record Settings : Type 0 where
  pub time : ℕ
  pub next : ℕ
  pub config : Config

-- The used rows are those of the list.
pub record Bucket : Type 0 where
  pub settings : Settings
  pub rows : List Row

-- The largest version number, and the next version number that means spent: one more.
abbrev pub largest_number : ℕ
largest_number = 18446744073709551614

abbrev pub spent_number : ℕ
spent_number = 18446744073709551615

-- ## Fresh

abbrev pub absent_rule : Rule
absent_rule = record { prefix = []; current_days = 0; noncurrent_days = 0 }

abbrev pub absent_default : Default
absent_default = record { mode = 0; count = 0; unit = 0 }

-- Next number 1, everything else zero.
abbrev pub fresh : Bucket
fresh = record { settings = record { time = 0; next = 1; config = record { default = absent_default; rules = replicate 8 absent_rule } }; rows = [] }

-- ## Soundness (01's term)

-- The units of a period: 1 for days, 2 for years.
abbrev pub days : ℕ
days = 1

abbrev pub years : ℕ
years = 2

-- 1 to 36500 days, or 1 to 100 years.
abbrev pub is_period : ℕ → ℕ → Bool
is_period count unit = leb 1 count && ((eqb unit days && leb count 36500) || (eqb unit years && leb count 100))

-- There is a default retention.
abbrev pub has_default : Default → Bool
has_default d = not (eqb d.mode 0)

-- An absent default is all zero.
abbrev pub sound_default : Default → Bool
sound_default d = (eqb d.mode 0 && (eqb d.count 0 && eqb d.unit 0)) || (is_mode d.mode && is_period d.count d.unit)

abbrev pub is_days : ℕ → Bool
is_days n = leb n 36500

-- The rule is set: it has an action.
abbrev pub is_set : Rule → Bool
is_set u = not (eqb u.current_days 0 && eqb u.noncurrent_days 0)

-- An absent rule is all zero.
abbrev pub sound_rule : Rule → Bool
sound_rule u = is_prefix u.prefix && (is_days u.current_days && (is_days u.noncurrent_days && (is_set u || eqb (length u.prefix) 0)))

-- Rules 0 to 7.
unfoldable pub sound_rules : List Rule → Bool
sound_rules us = eqb (length us) 8 && all sound_rule us

unfoldable pub sound_config : Config → Bool
sound_config s = sound_default s.default && sound_rules s.rules

abbrev pub sound_settings : Settings → Bool
sound_settings s = leb s.time latest && (leb 1 s.next && (leb s.next spent_number && sound_config s.config))

-- The rows fit a table of capacity c.
unfoldable pub fits : ℕ → Config → List Row → Bool
fits c s xs = leb (length xs) c

-- The whole is sound, in a table of capacity c.
unfoldable pub sound : ℕ → Bucket → Bool
sound c b =
    fits c b.settings.config b.rows
    && (sound_settings b.settings
    && (ordered b.rows
    && all (sound_row b.settings.next b.settings.time) b.rows))
