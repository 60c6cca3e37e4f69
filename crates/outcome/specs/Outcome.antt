-- What a call does to a bucket and an answer buffer of any contents (demand 2).
use Rattle.std.specs.Prelude.{ℕ, List, ◌++◌, eqb, length, drop}
use Rattle.buffers.specs.Choices.{pick}
use Rattle.model.specs.Requests.{Request, Heard, unreadable, says}
use Rattle.model.specs.Effects.{after}
use Rattle.model.specs.Retries.{meaning}
use Rattle.model.specs.Refusals.{Check, first_of, checks}
use Rattle.model.specs.Answers.{answer_to}
use Rattle.table.specs.Layout.{capacity}
use Rattle.bucket.specs.Whole.{Lent, bucket_of, laid_out, whole}
use Rattle.answers.specs.Text.{answer_text}
use Rattle.outcome.specs.Calls.{Call, heard}

-- What a call returns, and what it leaves of the bucket and the answer buffer.
pub record Outcome : Type 0 where
  pub number : ℕ
  pub len : ℕ
  pub bucket : Lent
  pub answer : List ℕ

-- A refusal leaves everything as it was.
abbrev pub refused : ℕ → Lent → List ℕ → Outcome
refused n b answer = record { number = n; len = 0; bucket = b; answer = answer }

-- The text stands at the buffer's start; bytes after it are untouched.
abbrev pub written : List ℕ → List ℕ → List ℕ
written text room = text ++ drop (length text) room

-- An accepted call: it returns 0 and the text's length, leaves this bucket, and writes the text and nothing behind it.
abbrev pub answered_by : List ℕ → Lent → List ℕ → Outcome
answered_by text b room = record { number = 0; len = length text; bucket = b; answer = written text room }

-- An accepted request leaves the bucket after it, and its answer, by what it means.
abbrev pub accepted : Lent → Request → List ℕ → Outcome
accepted b q answer =
    let m = meaning (bucket_of b) q in
    answered_by (answer_text (answer_to (bucket_of b) m)) (laid_out (capacity b.keys) (after (bucket_of b) m)) answer

-- The conditions of a call, in 01's order.
abbrev pub conditions : Lent → Call → List Check
conditions b g = checks (whole b) (capacity b.keys) (bucket_of b) (heard g)

-- The refusal of a call: the first of the conditions that holds, or 0.
unfoldable pub refusal_of : Lent → Call → ℕ
refusal_of b g = first_of (conditions b g)

-- What is heard, accepted; what can't be read never is.
abbrev pub accept : Lent → Heard → List ℕ → Outcome
accept b (unreadable room) answer = refused 3 b answer
accept b (says q) answer = accepted b q answer

-- The outcome of a call.
unfoldable pub outcome : Lent → Call → Outcome
outcome b g = pick (eqb (refusal_of b g) 0) (accept b (heard g) g.answer) (refused (refusal_of b g) b g.answer)
