-- A list of lines: each is handed the bucket that the one before it left.
use Rattle.std.specs.Prelude.{ℕ, Bool, List, [], ◌∷◌, ◌++◌, eqb}
use Rattle.buffers.specs.Choices.{pick}
use Rattle.model.specs.Settings.{Bucket}
use Rattle.model.specs.Requests.{Request, Heard, unreadable, says}
use Rattle.model.specs.Effects.{after}
use Rattle.model.specs.Retries.{meaning}
use Rattle.model.specs.Refusals.{refusal}
use Rattle.model.specs.Answers.{Answer, answer_to, gives_number}

-- ## Lists of calls

module _ {S C : Type 0} (step : S → C → S) where
  -- What a list of calls leaves, each handed what the one before it left.
  abbrev pub left : S → List C → S
  left s [] = s
  left s (c ∷ cs) = left (step s c) cs

  -- What is told of each call and of what it was handed, in order.
  abbrev pub gathered : {A : Type 0} → (S → C → List A) → S → List C → List A
  gathered tell s [] = []
  gathered tell s (c ∷ cs) = tell s c ++ gathered tell (step s c) cs

-- ## Lines on a bucket

-- The bucket after an accepted line, by what it means.
abbrev pub accept : Bucket → Heard → Bucket
accept b (unreadable room) = b
accept b (says q) = after b (meaning b q)

-- The bucket after a line: nothing changes where it is refused.
abbrev pub serve : ℕ → Bucket → Heard → Bucket
serve c b l = pick (eqb (refusal c b l) 0) (accept b l) b

-- The bucket after a list of lines.
abbrev pub run : ℕ → Bucket → List Heard → Bucket
run c b ls = left (serve c) b ls

-- An accepted line: the bucket that the lines before it left, what the line means on it, and whether its answer is that of a PUT or COPY that makes the version of this number.
pub record Event : Type 0 where
  pub before : Bucket
  pub request : Request
  pub answered : ℕ → Bool

-- What a line means, if it can be read.
abbrev pub event : Bucket → Heard → List Event
event b (unreadable room) = []
event b (says q) = let m = meaning b q in record { before = b; request = m; answered = λ v. gives_number v (answer_to b m) } ∷ []

-- The same, if the line is accepted.
abbrev pub line_event : ℕ → Bucket → Heard → List Event
line_event c b l = pick (eqb (refusal c b l) 0) (event b l) []

-- The accepted lines of a list, in order.
abbrev pub line_events : ℕ → Bucket → List Heard → List Event
line_events c b ls = gathered (serve c) (line_event c) b ls

-- What a line gets back: a refusal's number, or an answer.
pub data Reply : Type 0 where
  no : ℕ → Reply
  ok : Answer → Reply

abbrev pub reply_to : ℕ → Bucket → Heard → Reply
reply_to c b (unreadable room) = no (refusal c b (unreadable room))
reply_to c b (says q) = pick (eqb (refusal c b (says q)) 0) (ok (answer_to b (meaning b q))) (no (refusal c b (says q)))

abbrev pub replies : ℕ → Bucket → List Heard → List Reply
replies c b ls = gathered (serve c) (λ b l. reply_to c b l ∷ []) b ls
