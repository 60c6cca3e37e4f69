-- The three demands, over bytes and buffers.
use Rattle.std.specs.Prelude.{ℕ, ◌≤◌, ◌≡◌, true, not, List}
use Rattle.std.specs.Prelude.{Some}
use Rattle.buffers.specs.Lists.{all}
use Rattle.text.specs.Fields.{field_of}
use Rattle.text.specs.Lines.{first_line}
use Rattle.dates.specs.Reading.{read_date}
use Rattle.model.specs.Rows.{Row}
use Rattle.model.specs.Requests.{Name, Get, Ask, Request, says}
use Rattle.model.specs.Effects.{row_of}
use Rattle.model.specs.Refusals.{FirstHolds, last_refusal}
use Rattle.model.specs.Run.{left}
use Rattle.model.specs.LockClause.{since, Kept}
use Rattle.bucket.specs.Whole.{Lent, bucket_of, fresh_lent}
use Rattle.outcome.specs.Calls.{Call, heard}
use Rattle.outcome.specs.Outcome.{Outcome, refused, accepted, conditions, outcome}
use Rattle.guarantee.specs.Calls.{step, call_events}

-- What a hub returns and leaves, on any bucket as it is lent and for any call. The engine is `outcome`, which the contract of its `serve` equates with what the code does.
abbrev pub Hub : Type 0
Hub = Lent → Call → Outcome

-- A refusal with this number leaves table, settings and answer buffer as they were.
abbrev pub Unchanged : Hub → Lent → Call → ℕ → Type 0
Unchanged hub b g n = hub b g ≡ refused n b g.answer

-- An accepted call says a request, and does what the definitions say of it.
pub record Accepted (hub : Hub) (b : Lent) (g : Call) : Type 0 where
  pub request : Request
  pub hears : heard g ≡ says request
  pub does : hub b g ≡ accepted b request g.answer

-- Demand 1: with table, settings and answer buffer of arbitrary contents and lengths, a line is accepted or refused with a number of a condition; a refusal writes nothing.
pub record Demand1 (hub : Hub) (b : Lent) (g : Call) : Type 0 where
  pub numbered : (hub b g).number ≤ last_refusal
  pub writes_nothing : ((hub b g).number ≡ 0 → ⊥) → Unchanged hub b g (hub b g).number

-- Demand 2: a refusal comes where its condition is the first in order to hold, and nowhere else; where none holds, the line is accepted.
pub record Demand2 (hub : Hub) (b : Lent) (g : Call) : Type 0 where
  pub refused_first : (n : ℕ) → (hub b g).number ≡ n → (n ≡ 0 → ⊥) → FirstHolds (conditions b g) n
  pub first_refused : (n : ℕ) → FirstHolds (conditions b g) n → (hub b g).number ≡ n
  pub accepts : all (λ x. not x.holds) (conditions b g) ≡ true → Accepted hub b g

-- And a printed date reads back as the same instant: in the answer buffer after an accepted GET, the fifth field behind `ok` reads as the date of the row that it names.
abbrev pub DateReadsBack : Lent → Call → Type 0
DateReadsBack b g =
    (n : Name) (q : Request) (x : Row) → (outcome b g).number ≡ 0 → heard g ≡ says q → q.verb ≡ Ask (Get n) → row_of (bucket_of b).rows n ≡ Some x
    → (x.mode ≡ 0 → ⊥) → read_date (field_of (first_line (outcome b g).answer) 5) ≡ Some x.until

-- The lock clause of what a list of calls leaves of a bucket.
abbrev pub KeptSince : Lent → List Call → Type 0
KeptSince b gs = Kept (bucket_of (left step b gs)) (since (bucket_of b) (call_events b gs))

-- Demand 3: on a fresh bucket of any capacity, over any list of calls, the lock clause.
abbrev pub Demand3 : Type 0
Demand3 = (c : ℕ) → 1 ≤ c → c ≤ 1024 → (gs : List Call) → KeptSince (fresh_lent c) gs
