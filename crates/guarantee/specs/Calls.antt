-- Calls of the engine on a lent bucket: each is handed what the one before it left.
use Rattle.std.specs.Prelude.{ℕ, Bool, ◌&&◌, List, [], ◌∷◌, eqb}
use Rattle.buffers.specs.Choices.{pick, is_some}
use Rattle.buffers.specs.Lists.{begins}
use Rattle.model.specs.Settings.{Bucket}
use Rattle.model.specs.Requests.{numbered, Verb, Heard, unreadable, says, terms_of}
use Rattle.model.specs.Retries.{meaning}
use Rattle.model.specs.Answers.{made}
use Rattle.model.specs.Run.{Event, gathered}
use Rattle.bucket.specs.Whole.{Lent, bucket_of}
use Rattle.answers.specs.Text.{answer_text}
use Rattle.outcome.specs.Calls.{Call, heard}
use Rattle.outcome.specs.Outcome.{outcome}

-- ## One call

-- The bucket after a call.
abbrev pub step : Lent → Call → Lent
step b g = (outcome b g).bucket

-- Accepted: the call returned 0.
abbrev pub is_accepted : Lent → Call → Bool
is_accepted b g = eqb (outcome b g).number 0

-- ## What accepted calls mean

-- A PUT or COPY that is no retry: what it means has lock fields.
abbrev pub makes_version : Verb → Bool
makes_version w = is_some (terms_of w)

-- A version is made, and the answer buffer begins with `ok`, a tab, this number and a line feed.
abbrev pub answers_number : Verb → List ℕ → ℕ → Bool
answers_number w answer v = makes_version w && begins (answer_text (made (numbered v))) answer

-- What is meant by what is heard: the bucket before it, what the request means on it, and the number in the answer buffer after it.
abbrev pub event_heard : Bucket → Heard → List ℕ → List Event
event_heard b (unreadable room) answer = []
event_heard b (says q) answer = let m = meaning b q in record { before = b; request = m; answered = answers_number m.verb answer } ∷ []

-- What an accepted call means.
abbrev pub call_event : Lent → Call → List Event
call_event b g = pick (is_accepted b g) (event_heard (bucket_of b) (heard g) (outcome b g).answer) []

-- ## A list of calls, each handed what the one before it left

-- What the accepted calls of a list mean, in order.
abbrev pub call_events : Lent → List Call → List Event
call_events b gs = gathered step call_event b gs

-- The accepted calls of a list.
abbrev pub accepted_calls : Lent → List Call → List Call
accepted_calls b gs = gathered step (λ b g. pick (is_accepted b g) (g ∷ []) []) b gs
