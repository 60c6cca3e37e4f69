-- What a line leaves is its outcome.
use Prim.Native.Nat.{ℕ, ◌≤◌}
use mathlib.Core.Path.{◌≡◌, subst⁻¹}
use mathlib.Core.List.{List}
use lib.ListN.{length}
use Rattle.std.specs.Prelude.{Result, Ok}
use Rattle.model.specs.declared.Refusal.{Refusal}
use Rattle.settings.specs.declared.Settings.{Settings}
use Rattle.bucket.specs.Whole.{Lent}
use Rattle.outcome.specs.Calls.{Call}
use Rattle.outcome.specs.Outcome.{Outcome, outcome}
use Rattle.engine.specs.declared.Served.{Served}
use Rattle.engine.specs.Served.{served_outcome}
use Rattle.outcome.proofs.Room.{outcome_fits}

-- The answer stands within its buffer.
pub answer_fits : (s : Settings) (b : Lent) (g : Call) (n k a : List ℕ) (q : Result Served Refusal) (r : Served) → served_outcome s q n k a ≡ outcome b g → q ≡ Ok r → r.len ≤ length a
answer_fits s b g n k a q r f e = subst⁻¹ (λ (o : Outcome). o.len ≤ length o.answer) (rw e at f) (outcome_fits b g)
