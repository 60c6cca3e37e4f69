-- What the demands say of a list of lines that is served by one call.
use Prim.Native.Nat.{ℕ}
use mathlib.Core.Path.{◌≡◌, refl}
use mathlib.Core.List.{List, [], ◌∷◌}
use Rattle.text.specs.Lines.{lines_of}
use Rattle.model.specs.Run.{left}
use Rattle.model.specs.LockClause.{since, Kept}
use Rattle.bucket.specs.Whole.{Lent, bucket_of}
use Rattle.outcome.specs.Calls.{call}
use Rattle.outcome.specs.Outcome.{outcome}
use Rattle.guarantee.specs.Calls.{step, call_events}
use Rattle.guarantee.specs.Lists.{served_lines, calls_of}
use Rattle.guarantee.specs.Carried.{Carriable}
use Rattle.guarantee.proofs.LockClause.{runs_on}

-- A list of lines leaves what their calls leave.
pub lines_left : (b : Lent) (answer : List ℕ) (ls : List (List ℕ)) → (served_lines b answer ls).bucket ≡ left step b (calls_of b answer ls)
lines_left b answer [] = refl
lines_left b answer (l ∷ ls) = lines_left (step b (call l answer)) (outcome b (call l answer)).answer ls

-- The lock clause of what `serve_lines` leaves, from a fresh bucket or one carried over.
pub lines_kept : (b : Lent) → Carriable b → (text answer : List ℕ)
    → Kept (bucket_of (served_lines b answer (lines_of text)).bucket) (since (bucket_of b) (call_events b (calls_of b answer (lines_of text))))
lines_kept b p text answer = rw (lines_left b answer (lines_of text)) (runs_on b p (calls_of b answer (lines_of text)))
