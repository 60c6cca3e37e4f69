-- Document 02, M-101: what a PUT that is a retry comes to, and that a PUT sent twice is a PUT sent once.
use Rattle.std.specs.Prelude.{ℕ, ◌≤◌, ◌≡◌, Bool, true, not, ◌&&◌, List, [], ◌∷◌, ◌++◌, ltb, length, take, drop}
use Rattle.buffers.specs.Lists.{same}
use Rattle.buffers.specs.Texts.{bytes}
use Rattle.text.specs.Lines.{first_line}
use Rattle.model.specs.Rows.{Row}
use Rattle.model.specs.Requests.{numbered, Terms, Put, Request, says}
use Rattle.model.specs.Time.{now_of}
use Rattle.model.specs.Effects.{after}
use Rattle.model.specs.Retries.{IsRetry}
use Rattle.model.specs.declared.Refusal.TheVariants.{Unsound, ShortAnswer, Unreadable, HalfGiven, NoRight, PastDate}
use Rattle.model.specs.Refusals.{least_room, out_of_range, half_given, lacks_right, past_date, Check, check, first_of}
use Rattle.model.specs.Answers.{made}
use Rattle.model.specs.LockClause.{History, makes, puts_under, puts_on_hold, none_of}
use Rattle.settings.specs.declared.Settings.{Settings}
use Rattle.table.specs.Layout.{capacity}
use Rattle.bucket.specs.Whole.{Lent, lent, bucket_of, laid_out, whole}
use Rattle.answers.specs.Text.{answer_text}
use Rattle.outcome.specs.Calls.{Sent, Call, heard}
use Rattle.outcome.specs.Outcome.{written, answered_by, outcome}
use Rattle.knitpasture.specs.Bytes.{Bytes, as_bytes, byte_outcome, hub_served}
use Rattle.guarantee.specs.Calls.{step, call_event}
use Rattle.guarantee.specs.Bytes.{byte_step}
use Rattle.guarantee.specs.Exchanges.{Exchange, exchange, byte_exchange, sent_field, is_served}

-- The settings at another time, all else as it is.
abbrev pub settings_at : Settings → ℕ → Settings
settings_at s time = record { time = time; used = s.used; next = s.next; mode = s.mode; count = s.count; unit = s.unit; rules = s.rules }

-- The bucket at another time, all else as it is.
abbrev pub at_time : Lent → ℕ → Lent
at_time b time = lent (settings_at b.settings time) b.numbers b.keys

-- ## A retry

-- The conditions up to 6, on the line as it is written.
abbrev pub written_checks : Lent → Request → List Check
written_checks b q =
    check Unsound (not (whole b))
    ∷ check ShortAnswer (ltb q.context.room least_room)
    ∷ check Unreadable (out_of_range q.context q.verb)
    ∷ check HalfGiven (half_given q.verb)
    ∷ check NoRight (lacks_right (bucket_of b).settings.config q.context.who q.verb)
    ∷ check PastDate (past_date (now_of (bucket_of b) q.context).stamp q.verb)
    ∷ []

-- What a PUT comes to that is a retry of the row x.
pub record Retried (b : Lent) (g : Call) (q : Request) (x : Row) : Type 0 where
  -- It meets the first of these that holds, and none of 7 to 13, in a full table and with the version numbers spent too.
  pub refusal_is : (outcome b g).number ≡ first_of (written_checks b q)
  -- Accepted, it answers the row's number, and of the bucket only the time changes, to the line's now.
  pub does : (outcome b g).number ≡ 0 → outcome b g ≡ answered_by (answer_text (made (numbered x.number))) (at_time b (now_of (bucket_of b) q.context).stamp) g.answer
  -- For the lock clause it makes no version, puts none under a mode, and none on hold.
  pub makes_none : (early : History) (v : ℕ) → none_of (makes early v) (call_event b g) ≡ true
  pub puts_none_under : (early : History) (mode d v : ℕ) → none_of (puts_under early mode d v) (call_event b g) ≡ true
  pub puts_none_on_hold : (early : History) (v : ℕ) → none_of (puts_on_hold early v) (call_event b g) ≡ true

-- A PUT is heard that is a retry of a row.
abbrev pub RetryAddsNone : Type 0
RetryAddsNone = (b : Lent) (g : Call) (q : Request) (k : List ℕ) (body size : ℕ) (t : Terms) (x : Row)
    → heard g ≡ says q → q.verb ≡ Put k body size t → IsRetry (bucket_of b).rows k body size x → Retried b g q x

-- A PUT is heard that is a retry of none: accepted, it adds its row, as PUT's effect says, and answers the next number.
abbrev pub OtherPutMakes : Type 0
OtherPutMakes = (b : Lent) (g : Call) (q : Request) (k : List ℕ) (body size : ℕ) (t : Terms)
    → heard g ≡ says q → q.verb ≡ Put k body size t → ((x : Row) → IsRetry (bucket_of b).rows k body size x → ⊥) → (outcome b g).number ≡ 0
    → outcome b g ≡ answered_by (answer_text (made (numbered (bucket_of b).settings.next))) (laid_out (capacity b.keys) (after (bucket_of b) q)) g.answer

-- ## Sent twice is sent once

-- PUT was sent, and accepted.
abbrev pub is_put : Exchange → Bool
is_put e = is_served (bytes "PUT") e

-- The line that stands at an answer buffer's start, with its line feed.
abbrev pub line_in : List ℕ → List ℕ
line_in answer = first_line answer ++ 10 ∷ []

-- The line of an accepted PUT, sent again on the bucket that it left, is accepted, writes the line that the first wrote, and leaves every byte of the bucket:
-- on any bucket, with answer buffers of any contents, the second of at least 256 bytes.
abbrev pub SentTwice : Type 0
SentTwice = (b : Lent) (g again : Call) → is_put (exchange b g) ≡ true → again.sent ≡ g.sent → least_room ≤ length again.answer
    → outcome (step b g) again ≡ answered_by (line_in (outcome b g).answer) (step b g) again.answer

-- The same of the C entry, with bytes of any contents and lengths.
abbrev pub SentTwiceBytes : Type 0
SentTwiceBytes = (b : Bytes) (g again : Call) → is_put (byte_exchange b g) ≡ true → again.sent ≡ g.sent → least_room ≤ length again.answer
    → hub_served (byte_step b g) again ≡ byte_outcome 0 (byte_step b g) (written (line_in (hub_served b g).answer) again.answer)

-- ## The same file sent again, with another clock, other rights or another lock

-- The second line is a PUT with the first one's key, body number and length, byte for byte.
abbrev pub same_file : Sent → Sent → Bool
same_file s u =
    same (sent_field u 2) (bytes "PUT")
    && (same (sent_field u 3) (sent_field s 3)
    && (same (sent_field u 4) (sent_field s 4)
    && same (sent_field u 5) (sent_field s 5)))

-- Where it is accepted it writes the line that the first wrote, and leaves the bucket but for its time.
abbrev pub SentLater : Type 0
SentLater = (b : Lent) (g again : Call) → is_put (exchange b g) ≡ true → same_file g.sent again.sent ≡ true → (outcome (step b g) again).number ≡ 0
    → outcome (step b g) again ≡ answered_by (line_in (outcome b g).answer) (at_time (step b g) (step (step b g) again).settings.time) again.answer

-- The bytes of a bucket with the time of other settings, which are their first eight bytes.
abbrev pub with_time_of : List ℕ → Bytes → Bytes
with_time_of settings b = as_bytes (take 8 settings ++ drop 8 b.settings) b.rows b.keys

-- The same of the C entry.
abbrev pub SentLaterBytes : Type 0
SentLaterBytes = (b : Bytes) (g again : Call) → is_put (byte_exchange b g) ≡ true → same_file g.sent again.sent ≡ true → (hub_served (byte_step b g) again).number ≡ 0
    → hub_served (byte_step b g) again
    ≡ byte_outcome 0 (with_time_of (byte_step (byte_step b g) again).settings (byte_step b g)) (written (line_in (hub_served b g).answer) again.answer)
