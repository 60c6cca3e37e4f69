-- For whoever hands a line and an answer buffer: the answer stands within the buffer, and a line's end within the text.
use Prim.Native.Nat.{ℕ, ◌≤◌}
use mathlib.Core.Path.{refl}
use mathlib.Core.List.{List, ◌++◌}
use native.Mathlib.Omega.{arith}
use lib.ListN.{length, take, drop, length-append, length-take}
use Rattle.buffers.specs.Ranges.{Within}
use Rattle.model.specs.Retries.{meaning}
use Rattle.model.specs.Answers.{answer_to}
use Rattle.answers.specs.Text.{answer_text}
use Rattle.bucket.specs.Whole.{Lent, bucket_of}
use Rattle.outcome.specs.Calls.{Call}
use Rattle.outcome.specs.Outcome.{outcome}
use Rattle.outcome.proofs.Heard.{both_outcomes}

text_fits : (t a : List ℕ) → length t ≤ length (t ++ drop (length t) a)
text_fits t a = simp length-append (omega arith)

pub outcome_fits : (b : Lent) (g : Call) → (outcome b g).len ≤ length (outcome b g).answer
outcome_fits b g = both_outcomes b g g (λ o p. o.len ≤ length o.answer) (λ k. omega arith) (λ q. text_fits (answer_text (answer_to (bucket_of b) (meaning (bucket_of b) q))) g.answer) refl

pub end_inside : (k v i : ℕ) (l : List ℕ) (m : ℕ) → Within k v (length (take m (drop i l))) → k ≤ m
end_inside k v i l m w = let e = length-take m (drop i l) in omega (arith, w.most)
