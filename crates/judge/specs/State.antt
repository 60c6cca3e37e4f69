-- The state that a line is judged on: the buffers' rows, and what of the settings plays a part.
use Rattle.std.specs.Prelude.{ℕ, ◌≤◌, ◌≡◌, true, List, length}
use Rattle.buffers.specs.Lists.{all}
use Rattle.model.specs.Rows.{Row, ordered, sound_row}
use Rattle.model.specs.Settings.{Rule, Bucket, spent_number, sound_default}
use Rattle.table.specs.Layout.{rows_of}
use Rattle.table.specs.Contents.{Contents}
use Rattle.settings.specs.declared.State.{State}
use Rattle.settings.specs.State.{default_by, config_by}

-- the bucket of a state, with these rules and rows
abbrev pub bucket_by : State → List Rule → List Row → Bucket
bucket_by s rules xs = record { settings = record { time = s.time; next = s.next; config = config_by s rules }; rows = xs }

-- the used rows
abbrev pub rows_in : State → List ℕ → List ℕ → List Row
rows_in s numbers keys = rows_of numbers keys s.used

-- The table's rows are sound and in order, and the settings that play a part are sound.
pub record Ready (s : State) (table : Contents) : Type 0 where
  pub in_order : ordered table.rows ≡ true
  pub rows_sound : all (sound_row s.next s.time) table.rows ≡ true
  pub from_one : 1 ≤ s.next
  pub next_fits : s.next ≤ spent_number
  pub default_sound : sound_default (default_by s) ≡ true
  pub used_is : length table.rows ≡ s.used
  pub used_fits : s.used ≤ table.room
  pub capacity_fits : table.room ≤ 1024
