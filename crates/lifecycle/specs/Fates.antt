-- 01, SWEEP: the fates of all rows in a buffer that keeps fates, as themselves or as bytes.
use Rattle.std.specs.Prelude.{ℕ, List, ◌++◌, length, drop, map, None}
use Rattle.model.specs.declared.Fate.{Fate}
use Rattle.model.specs.Rows.{Row}
use Rattle.model.specs.Settings.{Rule}
use Rattle.model.specs.Sweep.{fates}

-- what is kept of the rows' fates, and behind it what stood there before
unfoldable pub fates_after : {A : Type 0} → (Fate → A) → List Rule → ℕ → List Row → List A → List A
fates_after cell rules now rows before = map cell (fates rules now None rows) ++ drop (length rows) before
