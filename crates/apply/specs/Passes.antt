-- 01, SWEEP, carried out in two passes: the rows that go are left out, then markers come in.
use Rattle.std.specs.Prelude.{ℕ, ◌+◌, ◌-◌, ◌*◌, ◌≤◌, ◌≡◌, List, [], ◌∷◌, ◌++◌, length, take}
use Rattle.buffers.specs.Lists.{total}
use Rattle.buffers.specs.Writes.{placed}
use Rattle.model.specs.Rows.{Row}
use Rattle.model.specs.Settings.{spent_number}
use Rattle.model.specs.declared.Fate.{Fate}
use Rattle.model.specs.declared.Fate.TheVariants.{Stays, Goes, Gains}
use Rattle.model.specs.Sweep.{marks, removes}
use Rattle.table.specs.Layout.{Holds, rows_of, capacity}

-- a thing in a list of its own, unless it goes
abbrev pub unless_gone : {A : Type 0} → Fate → A → List A
unless_gone Stays x = x ∷ []
unless_gone Goes x = []
unless_gone Gains x = x ∷ []

-- what the fates leave of a list; of the fates themselves those other than going
abbrev pub kept : {A : Type 0} → List Fate → List A → List A
kept [] xs = []
kept (f ∷ fs) [] = []
kept (f ∷ fs) (x ∷ xs) = unless_gone f x ++ kept fs xs

-- What carrying out asks: the buffers hold the rows, each has its fate, the rows that go and the markers are counted, there is room and there are numbers for them.
pub record Carriable (rows keys : List ℕ) (used : ℕ) (fates : List Fate) (gone added next : ℕ) : Type 0 where
  pub holds : Holds (capacity keys) (rows_of rows keys used) rows keys
  pub each : used ≤ length fates
  pub removed : gone ≡ total removes (take used fates)
  pub markers : added ≡ total marks (take used fates)
  pub room : used - total removes (take used fates) + added ≤ capacity keys
  pub numbers : next + added ≤ spent_number

-- What the second pass asks: the rows are those that were left.
pub record Thinned (rows keys : List ℕ) (left used : ℕ) (fates : List Fate) (added next : ℕ) : Type 0 where
  pub holds : Holds (capacity keys) (rows_of rows keys left) rows keys
  pub each : used ≤ length fates
  pub rest : left ≡ length (kept (take used fates) (take used fates))
  pub markers : added ≡ total marks (take used fates)
  pub room : left + added ≤ capacity keys
  pub numbers : next + added ≤ spent_number

-- The buffers hold the rows that remain, which are so many.
pub record Remaining (c : ℕ) (xs : List Row) (rows keys : List ℕ) (count : ℕ) : Type 0 where
  pub holds : Holds c xs rows keys
  pub many : count ≡ length xs

-- The place lies within the buffers.
pub record InBuffers (at : ℕ) (rows keys : List ℕ) : Type 0 where
  pub numbers : 8 * at + 8 ≤ length rows
  pub block : 64 * at + 64 ≤ length keys

-- These numbers and key bytes were written from a place on.
pub record Put (at : ℕ) (numbers block rows keys rows' keys' : List ℕ) : Type 0 where
  pub numbers_are : rows' ≡ placed rows (8 * at) numbers
  pub keys_are : keys' ≡ placed keys (64 * at) block
