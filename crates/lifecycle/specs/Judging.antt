-- 01, SWEEP: judging a table's rows, key by key.
use Rattle.std.specs.Prelude.{◌≡◌, ℕ, zero, suc, ◌+◌, ◌-◌, ◌*◌, ◌<◌, ◌≤◌, Bool, true, false, List, length, take, map, ◌==◌, ◌≢◌, get_or}
use Rattle.std.specs.Prelude.{Option, Some, None}
use Rattle.buffers.specs.Choices.{pick}
use Rattle.buffers.specs.Lists.{all, same, total}
use Rattle.buffers.specs.Ranges.{Within}
use Rattle.calendar.specs.Calendar.{latest}
use Rattle.model.specs.Rows.{Row, is_data}
use Rattle.model.specs.Settings as model
use Rattle.model.specs.Locks.{locked}
use Rattle.model.specs.declared.Fate.{Fate}
use Rattle.model.specs.declared.Fate.TheVariants.{Stays, Goes, Gains}
use Rattle.model.specs.Sweep.{fate, marks, removes, counted}
use Rattle.model.specs.Comparisons.{row_keys, different}
use Rattle.settings.specs.declared.Rule.{Rule}
use Rattle.settings.specs.Meaning.{rules_mean, prefixes_are}
use Rattle.table.specs.Contents.{row_no}
use Rattle.lifecycle.specs.declared.Limits.{Limits}
use Rattle.lifecycle.specs.declared.KeyDone.{KeyDone}
use Rattle.lifecycle.specs.declared.Counts.{Counts}
use Rattle.lifecycle.specs.declared.Judged.{Judged}
use Rattle.lifecycle.specs.Days.{over, few_days}
use Rattle.lifecycle.specs.Fates.{fates_after}

-- ## A row's fate by its key's days

-- a current row's; the midnight is the one at which the day began
unfoldable pub current_by : ℕ → ℕ → Row → Fate
current_by days midnight x = pick (is_data x) (pick (over days x.created midnight) Gains Stays) Stays

-- the fate of a row that isn't current; `since` is the creation of the next newer row, the midnight decides its days, now its lock
unfoldable pub noncurrent_by : ℕ → ℕ → ℕ → ℕ → Row → Fate
noncurrent_by days since now midnight x = pick (over days since midnight) (pick (locked now false x) Stays Goes) Stays

-- ## A row of the table

-- the row before a position
abbrev pub row_before : List Row → ℕ → Option Row
row_before xs zero = None
row_before xs (suc i) = Some (row_no xs i)

-- the row has the key of the row before it
unfoldable pub same_key : List Row → ℕ → Bool
same_key xs i = pick (i == 0) false (same (row_no xs (i - 1)).key (row_no xs i).key)

-- the fate of a row that isn't current, by its key's days
abbrev pub older_fate : List Row → ℕ → ℕ → ℕ → ℕ → Fate
older_fate xs days now midnight i = noncurrent_by days (row_no xs (i - 1)).created now midnight (row_no xs i)

-- the fate of a row of the key that begins at `from`, by the key's limits
abbrev pub version_fate : List Row → Limits → ℕ → ℕ → ℕ → ℕ → Fate
version_fate xs l now midnight from i = pick (i == from) (current_by l.current midnight (row_no xs i)) (older_fate xs l.noncurrent now midnight i)

-- the fate of the row at a position
abbrev pub fate_at : List model.Rule → ℕ → List Row → ℕ → Fate
fate_at us now xs i = fate us now (row_before xs i) (row_no xs i)

-- ## Contracts

-- A position between two.
pub record Between (low high r : ℕ) : Type 0 where
  pub from : low ≤ r
  pub to : r < high

-- The rows from a position on have its key at least up to `low`, and end by `high`.
pub record KeyEnding (xs : List Row) (at low high : ℕ) : Type 0 where
  pub more : at < low
  pub order : low ≤ high
  pub top : high ≤ length xs
  pub alike : (i : ℕ) → at ≤ i → i < low → (row_no xs i).key ≡ (row_no xs at).key
  pub other : high < length xs → (row_no xs high).key ≢ (row_no xs at).key

-- The rows from a position on have its key, up to r, where another key begins or the rows end.
pub record KeyEnds (xs : List Row) (at r : ℕ) : Type 0 where
  pub more : at < r
  pub most : r ≤ length xs
  pub alike : (i : ℕ) → at < i → i < r → same_key xs i ≡ true
  pub other : r < length xs → same_key xs r ≡ false

-- No sum of a row's creation and days is too large.
pub record Dated (xs : List Row) : Type 0 where
  pub instants : (i : ℕ) → i < length xs → (row_no xs i).created ≤ latest

-- The rows and the rules can be judged.
pub record Judgeable (xs : List Row) (rules : List Rule) : Type 0 where
  pub dated : Dated xs
  pub few : length xs ≤ 1024
  pub prefixes : prefixes_are rules ≡ true
  pub days : all few_days (rules_mean rules) ≡ true

-- what is kept at a position; behind the last one any fate would do
abbrev pub cell_no : {A : Type 0} → (Fate → A) → List A → ℕ → A
cell_no cell fs i = get_or fs i (cell Stays)

-- The fates from one position to another were stored, each what f says, and the others are as they were.
pub record Stored {A : Type 0} (cell : Fate → A) (f : ℕ → Fate) (from to : ℕ) (entry exit : List A) : Type 0 where
  pub long : length exit ≡ length entry
  pub early : (i : ℕ) → i < from → cell_no cell exit i ≡ cell_no cell entry i
  pub inside : (i : ℕ) → from ≤ i → i < to → cell_no cell exit i ≡ cell (f i)
  pub late : (i : ℕ) → to ≤ i → cell_no cell exit i ≡ cell_no cell entry i

-- How many rows the fates remove, and how many markers they add.
pub record Counted (fs : List Fate) (removed added : ℕ) : Type 0 where
  pub gone : Within removed (total removes fs) (length fs)
  pub come : Within added (total marks fs) (length fs)

-- The fates from one position to another count so much, whatever those before them count.
pub record CountedOn (entry exit : List Fate) (from to removed added : ℕ) : Type 0 where
  pub few_gone : removed ≤ to - from
  pub few_come : added ≤ to - from
  pub on : (gone come : ℕ) → Counted (take from entry) gone come → Counted (take to exit) (gone + removed) (come + added)

-- The fates of a key's rows were stored and counted, and each rule compared with the key once.
pub record JudgedKey {A : Type 0} (cell : Fate → A) (fate_in : A → Fate) (us : List model.Rule) (now : ℕ) (xs : List Row) (at : ℕ) (before : Judged) (entry exit : List A) (r : KeyDone) : Type 0 where
  pub ends : KeyEnds xs at r.end
  pub stored : Stored cell (fate_at us now xs) at r.end entry exit
  pub counts : Counted (take r.end (map fate_in exit)) r.judged.counts.removed r.judged.counts.added
  pub compared : r.judged.comparisons ≡ before.comparisons + length us

-- The fates of all rows were stored and counted, and each rule compared with each different key once.
pub record JudgedAll {A : Type 0} (cell : Fate → A) (fate_in : A → Fate) (us : List model.Rule) (now : ℕ) (xs : List Row) (entry exit : List A) (r : Judged) : Type 0 where
  pub fates_are : exit ≡ fates_after cell us now xs entry
  pub enough : length xs ≤ length exit
  pub counts : Counted (take (length xs) (map fate_in exit)) r.counts.removed r.counts.added
  pub compared : r.comparisons ≡ length us * length (different (row_keys xs))

-- The fates of all rows, and how many rows go and how many markers come.
pub record JudgedRows {A : Type 0} (cell : Fate → A) (us : List model.Rule) (now : ℕ) (xs : List Row) (entry exit : List A) (r : Counts) : Type 0 where
  pub fates_are : exit ≡ fates_after cell us now xs entry
  pub removed : Within r.removed (counted removes us now None xs) (length xs)
  pub added : Within r.added (counted marks us now None xs) (length xs)
