-- A change of the table: when it can be carried out, and what it then leaves.
use Rattle.std.specs.Prelude.{ℕ, ◌+◌, ◌≤◌, ◌≡◌, List, length}
use Rattle.model.specs.declared.Fate.{Fate}
use Rattle.model.specs.Rows.{Row}
use Rattle.table.specs.Layout.{rows_of, capacity, Holds}
use Rattle.judge.specs.declared.Change.{Change}
use Rattle.judge.specs.Meaning.{Judged, change_means, change_takes, Changeable}
use Rattle.apply.specs.declared.Progress.{Progress}

-- what is judged, beside the change
abbrev pub judged : List ℕ → ℕ → ℕ → List Fate → Judged
judged line next now fates = record { line = line; next = next; now = now; fates = fates }

-- The buffers hold their rows, and these can be changed so.
pub record Applicable (j : Judged) (numbers keys : List ℕ) (used : ℕ) (change : Change) : Type 0 where
  pub held : Holds (capacity keys) (rows_of numbers keys used) numbers keys
  pub can : Changeable j (capacity keys) (rows_of numbers keys used) change
  pub small : capacity keys ≤ 1024
  pub used_small : used ≤ 1024

-- The buffers hold the rows that the change leaves, and the counts are theirs.
pub record Applied (j : Judged) (c : ℕ) (xs : List Row) (change : Change) (numbers keys : List ℕ) (p : Progress) : Type 0 where
  pub held : Holds c (change_means j xs change) numbers keys
  pub used_is : p.used ≡ length (change_means j xs change)
  pub next_is : p.next ≡ j.next + change_takes change
