-- What is asked of a request that is judged, and what its verdict is.
use Rattle.std.specs.Prelude.{ℕ, ◌≤◌, ◌≡◌, true, List, length}
use Rattle.buffers.specs.Ranges.{Within}
use Rattle.text.specs.declared.Place.{Place}
use Rattle.text.specs.Fields.{part_of}
use Rattle.calendar.specs.declared.Now.{Now}
use Rattle.calendar.specs.Calendar.{latest}
use Rattle.model.specs.declared.Fate.{Fate}
use Rattle.model.specs.Rows.{Row}
use Rattle.model.specs.Settings.{Rule, spent_number, sound_rules}
use Rattle.model.specs.Requests.{Rights, Terms, Verb, Put, in_range}
use Rattle.settings.specs.declared.State.{State}
use Rattle.settings.specs.Bytes.{entries_length, rules_of}
use Rattle.settings.specs.Meaning.{rules_mean, prefixes_are}
use Rattle.table.specs.Contents.{Contents}
use Rattle.search.specs.Places.{key_place}
use Rattle.fields.specs.Meaning.{Inside}
use Rattle.judge.specs.declared.Plan.{Plan}
use Rattle.model.specs.declared.Refusal.{Refusal}
use Rattle.model.specs.declared.Refusal.TheVariants.{NumbersSpent, TableFull}
use Rattle.std.specs.Prelude.{Result, Ok, Err, ◌==◌, nat_lt, if◌then◌else◌}
use Rattle.outcome.specs.Decision.{table_decision}
use Rattle.judge.specs.State.{bucket_by, Ready}
use Rattle.judge.specs.Meaning.{Judges}

-- the now of a line, for judging and for stamping alike
abbrev pub both : ℕ → Now
both now = record { judge = now; stamp = now }

-- The state is ready, now is an instant not before the bucket's time, and the verb's fields are within their ranges.
pub record Asked (s : State) (table : Contents) (now : ℕ) (v : Verb) : Type 0 where
  pub ready : Ready s table
  pub instant : now ≤ latest
  pub since : s.time ≤ now
  pub in_ranges : in_range v ≡ true

-- A PUT that can be judged as a new row: its key stands within the line, and this is the key's place in the table.
pub record Placed (s : State) (table : Contents) (line : List ℕ) (now : ℕ) (key : Place) (at body size : ℕ) (t : Terms) : Type 0 where
  pub asked : Asked s table now (Put (part_of line key) body size t)
  pub inside : Inside line key
  pub place : Within at (key_place (part_of line key) table.rows) (length table.rows)

-- There is a version number and a free row for a line that adds a row, or else why not.
unfoldable pub room_for : ℕ → ℕ → ℕ → Result (Unit {0}) Refusal
room_for c used next =
    if next == spent_number then Err NumbersSpent
    else (if nat_lt used c then Ok tt else Err TableFull)

-- The rules of a sweep are sound, and there is room for a fate of each used row.
pub record Sweepable {A : Type 0} (s : State) (entries : List ℕ) (fates : List A) : Type 0 where
  pub entries_long : length entries ≡ entries_length
  pub prefixes : prefixes_are (rules_of entries) ≡ true
  pub rules_sound : sound_rules (rules_mean (rules_of entries)) ≡ true
  pub long : s.used ≤ length fates

-- The verdict is what the definitions decide for a sender with these rights, with these rules and these fates of a sweep.
abbrev pub JudgesBy : State → Contents → List ℕ → ℕ → Rights → List Rule → List Fate → Verb → Result Plan Refusal → Type 0
JudgesBy s table line now who rules fates v r =
    Judges (record { line = line; next = s.next; now = now; fates = fates }) table.room table.rows r
    (table_decision table.room (bucket_by s rules table.rows) (both now) who v)

-- The same, whatever the rights, the rules and the fates.
abbrev pub JudgesOn : State → Contents → List ℕ → ℕ → Verb → Result Plan Refusal → Type 0
JudgesOn s table line now v r = (who : Rights) (rules : List Rule) (fates : List Fate) → JudgesBy s table line now who rules fates v r

-- The verdict is that of a new row, on any rows and line that the place fits, with this room.
abbrev pub JudgesNew : State → ℕ → ℕ → Place → ℕ → ℕ → ℕ → Terms → Result Plan Refusal → Type 0
JudgesNew s room now p at body size t r =
    (rows : List Row) (keys line : List ℕ) → Placed s (record { rows = rows; room = room; keys = keys }) line now p at body size t
    → JudgesOn s (record { rows = rows; room = room; keys = keys }) line now (Put (part_of line p) body size t) r
