-- What is sent to the hub, and what is heard of it.
use Rattle.std.specs.Prelude.{ℕ, List, length}
use Rattle.buffers.specs.Choices.{then_some}
use Rattle.model.specs.Requests.{Heard, unreadable, says}
use Rattle.request.specs.Grammar.{read_line, asked}

-- What is sent: a request line's bytes.
pub data Sent : Type 0 where
  line : List ℕ → Sent

-- A call: what is sent, and an answer buffer, each of any contents and length.
pub record Call : Type 0 where
  pub sent : Sent
  pub answer : List ℕ

-- The call of a line.
abbrev pub call : List ℕ → List ℕ → Call
call s answer = record { sent = line s; answer = answer }

-- A line is read by the grammar.
abbrev pub heard_of : ℕ → Sent → Heard
heard_of room (line s) = then_some (read_line s) (unreadable room) (λ q. says (asked room q))

-- What is heard of a call.
abbrev pub heard : Call → Heard
heard g = heard_of (length g.answer) g.sent
