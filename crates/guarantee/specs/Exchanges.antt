-- What a caller sees of a call: what it sent, what it got back, and the answer buffer.
use Rattle.std.specs.Prelude.{ℕ, Bool, ◌&&◌, List, [], ◌∷◌, eqb}
use Rattle.buffers.specs.Lists.{same}
use Rattle.buffers.specs.Texts.{bytes}
use Rattle.text.specs.Fields.{field_of}
use Rattle.model.specs.Run.{gathered}
use Rattle.bucket.specs.Whole.{Lent}
use Rattle.outcome.specs.Calls.{Sent, line, Call}
use Rattle.outcome.specs.Outcome.{outcome}
use Rattle.knitpasture.specs.Bytes.{Bytes, hub_served}
use Rattle.guarantee.specs.Calls.{step}
use Rattle.guarantee.specs.Bytes.{byte_step}

-- What was sent, what the call returned, and the answer buffer after it.
pub record Exchange : Type 0 where
  pub sent : Sent
  pub number : ℕ
  pub answer : List ℕ

abbrev pub exchange : Lent → Call → Exchange
exchange b g = let o = outcome b g in record { sent = g.sent; number = o.number; answer = o.answer }

-- Each call is handed the bucket that the one before it left.
abbrev pub exchanges : Lent → List Call → List Exchange
exchanges b gs = gathered step (λ b g. exchange b g ∷ []) b gs

-- The same of `knitpasture_serve`.
abbrev pub byte_exchange : Bytes → Call → Exchange
byte_exchange b g = let o = hub_served b g in record { sent = g.sent; number = o.number; answer = o.answer }

abbrev pub byte_exchanges : Bytes → List Call → List Exchange
byte_exchanges b gs = gathered byte_step (λ b g. byte_exchange b g ∷ []) b gs

-- A field of a line that was sent.
abbrev pub sent_field : Sent → ℕ → List ℕ
sent_field (line s) i = field_of s i

-- A line of this verb was sent, and accepted.
abbrev pub is_served : List ℕ → Exchange → Bool
is_served verb e = eqb e.number 0 && same (sent_field e.sent 2) verb

-- SWEEP was sent, and accepted.
abbrev pub is_sweep : Exchange → Bool
is_sweep e = is_served (bytes "SWEEP") e
