-- 01, SWEEP, and document 02, M-102: what becomes of each row, judged on the table before the line, and what stands in its place after it.
use Rattle.std.specs.Prelude.{ℕ, ◌+◌, Bool, false, not, ◌&&◌, List, [], ◌∷◌, ◌++◌, eqb, leb}
use Rattle.std.specs.Prelude.{Option, Some, None}
use Rattle.buffers.specs.Choices.{pick}
use Rattle.buffers.specs.Lists.{keep, any, same, begins, total}
use Rattle.calendar.specs.declared.Now.{Now}
use Rattle.calendar.specs.Periods.{expires_at}
use Rattle.model.specs.declared.Fate.{Fate}
use Rattle.model.specs.declared.Fate.TheVariants.{Stays, Goes, Gains}
use Rattle.model.specs.Rows.{Row, is_data}
use Rattle.model.specs.Settings.{Rule, is_set}
use Rattle.model.specs.Locks.{locked}

-- A delete marker.
abbrev pub marker : ℕ → ℕ → List ℕ → Row
marker created n k = record { number = n; kind = 2; created = created; body = 0; size = 0; mode = 0; until = 0; hold = 0; key = k }

-- The rules that are set and whose prefix begins the key.
abbrev pub applying : List Rule → List ℕ → List Rule
applying rules k = keep (λ u. is_set u && begins u.prefix k) rules

-- By any of these rules its days have expired since an instant: now is at least their sum, rounded up to the next midnight UTC; 0 days stand for no action.
abbrev pub due : (Rule → ℕ) → List Rule → ℕ → ℕ → Bool
due days us now since = any (λ u. not (eqb (days u) 0) && leb (expires_at since (days u)) now) us

-- A current data row gains a marker if the current days have expired since its creation.
abbrev pub current_fate : List Rule → ℕ → Row → Fate
current_fate us now x = pick (is_data x && due (λ u. u.current_days) us now x.created) Gains Stays

-- A row that isn't current goes if the noncurrent days have expired since the creation of the next newer row, unless locked without bypass.
abbrev pub noncurrent_fate : List Rule → ℕ → Row → Row → Fate
noncurrent_fate us now newer x = pick (due (λ u. u.noncurrent_days) us now newer.created && not (locked now false x)) Goes Stays

-- The fate of a row, by the row before it in the table: the next newer one, or one of another key.
abbrev pub fate : List Rule → ℕ → Option Row → Row → Fate
fate rules now None x = current_fate (applying rules x.key) now x
fate rules now (Some y) x =
    pick (same y.key x.key) (noncurrent_fate (applying rules x.key) now y x) (current_fate (applying rules x.key) now x)

-- The rows in a row's place after the sweep; n is the next version number.
abbrev pub in_place : Fate → ℕ → ℕ → Row → List Row
in_place Stays created n x = x ∷ []
in_place Goes created n x = []
in_place Gains created n x = marker created n x.key ∷ x ∷ []

-- The markers that a fate adds, and the rows that it removes.
abbrev pub marks : Fate → ℕ
marks Stays = 0
marks Goes = 0
marks Gains = 1

abbrev pub removes : Fate → ℕ
removes Stays = 0
removes Goes = 1
removes Gains = 0

-- The fates of the rows after y, judged on the table before the line.
abbrev pub fates : List Rule → ℕ → Option Row → List Row → List Fate
fates rules now y [] = []
fates rules now y (x ∷ xs) = fate rules now y x ∷ fates rules now (Some x) xs

-- The rows that the fates leave; markers are numbered from n on, in key order.
abbrev pub carried_out : ℕ → ℕ → List Fate → List Row → List Row
carried_out created n [] xs = []
carried_out created n (f ∷ fs) [] = []
carried_out created n (f ∷ fs) (x ∷ xs) = in_place f created n x ++ carried_out created (n + marks f) fs xs

-- A sweep of the rows after y: how many it counts, and the rows that it leaves.
abbrev pub counted : (Fate → ℕ) → List Rule → ℕ → Option Row → List Row → ℕ
counted of rules now y xs = total of (fates rules now y xs)

abbrev pub swept : List Rule → Now → ℕ → Option Row → List Row → List Row
swept rules now n y xs = carried_out now.stamp n (fates rules now.judge y xs) xs
