-- The demands of the C entries, to which the bucket travels as bytes.
use Rattle.std.specs.Prelude.{ℕ, ◌*◌, ◌≤◌, ◌≡◌, true, not, List, [], eqb, length}
use Rattle.buffers.specs.Choices.{pick}
use Rattle.buffers.specs.Lists.{all}
use Rattle.model.specs.Requests.{Request, says}
use Rattle.model.specs.Refusals.{FirstHolds, last_refusal}
use Rattle.model.specs.Run.{Event, left, gathered}
use Rattle.model.specs.LockClause.{since, Kept}
use Rattle.settings.specs.Bytes.{settings_length, settings_bytes}
use Rattle.bucket.specs.Whole.{bucket_of, fresh_lent}
use Rattle.outcome.specs.Calls.{Call, heard}
use Rattle.outcome.specs.Outcome.{Outcome, accepted, conditions}
use Rattle.knitpasture.specs.Bytes.{Bytes, as_bytes, lent_of, numbers_bytes, ByteOutcome, byte_outcome, hub_served, fresh_outcome, hub_fresh}
use Rattle.guarantee.specs.Calls.{event_heard}

-- The bytes have the lengths of c rows.
pub record Sized (c : ℕ) (b : Bytes) : Type 0 where
  pub some : 1 ≤ c
  pub most : c ≤ 1024
  pub settings_long : length b.settings ≡ settings_length
  pub rows_long : length b.rows ≡ 64 * c
  pub keys_long : length b.keys ≡ 64 * c

-- ## A call of `knitpasture_serve`, which is `hub_served`

-- A refusal with this number leaves every byte as it was.
abbrev pub UnchangedBytes : Bytes → Call → ℕ → Type 0
UnchangedBytes b g n = hub_served b g ≡ byte_outcome n b g.answer

-- The bytes of what an accepted call leaves.
abbrev pub outcome_in_bytes : Outcome → ByteOutcome
outcome_in_bytes o = byte_outcome 0 (as_bytes (settings_bytes o.bucket.settings) (numbers_bytes o.bucket.numbers) o.bucket.keys) o.answer

-- An accepted call says a request, and does what the definitions say of it on what the bytes spell; the bytes that it leaves have the same lengths, and spell what it left.
pub record AcceptedBytes (c : ℕ) (b : Bytes) (g : Call) : Type 0 where
  pub request : Request
  pub hears : heard g ≡ says request
  pub outcome : Outcome
  pub outcome_is : outcome ≡ accepted (lent_of b) request g.answer
  pub does : hub_served b g ≡ outcome_in_bytes outcome
  pub sized : Sized c (hub_served b g).bytes
  pub spells : lent_of (hub_served b g).bytes ≡ outcome.bucket

-- Demand 1, with bytes of any contents and lengths.
pub record Demand1Bytes (b : Bytes) (g : Call) : Type 0 where
  pub numbered : (hub_served b g).number ≤ last_refusal
  pub writes_nothing : ((hub_served b g).number ≡ 0 → ⊥) → UnchangedBytes b g (hub_served b g).number

-- Demand 2, with bytes of the lengths of c rows: as on what they spell.
pub record Demand2Bytes (c : ℕ) (b : Bytes) (g : Call) : Type 0 where
  pub refused_first : (n : ℕ) → (hub_served b g).number ≡ n → (n ≡ 0 → ⊥) → FirstHolds (conditions (lent_of b) g) n
  pub first_refused : (n : ℕ) → FirstHolds (conditions (lent_of b) g) n → (hub_served b g).number ≡ n
  pub accepts : all (λ x. not x.holds) (conditions (lent_of b) g) ≡ true → AcceptedBytes c b g

-- With any other lengths a call meets 1.
abbrev pub WrongLengths : Bytes → Call → Type 0
WrongLengths b g = ((c : ℕ) → Sized c b → ⊥) → UnchangedBytes b g 1

-- ## A fresh bucket, of `knitpasture_fresh`, which is `hub_fresh`

-- The bytes that it leaves, of bytes of any contents.
abbrev pub fresh_bytes : Bytes → Bytes
fresh_bytes b = (hub_fresh b).bytes

-- With bytes of the lengths of c rows it leaves a fresh bucket of capacity c; with any other lengths it returns 1 and every byte stays.
pub record FreshMade (b : Bytes) : Type 0 where
  pub returns_0 : (c : ℕ) → Sized c b → (hub_fresh b).number ≡ 0
  pub sized : (c : ℕ) → Sized c b → Sized c (fresh_bytes b)
  pub spells : (c : ℕ) → Sized c b → lent_of (fresh_bytes b) ≡ fresh_lent c
  pub refuses : ((c : ℕ) → Sized c b → ⊥) → hub_fresh b ≡ fresh_outcome 1 b

-- ## A list of calls

-- The bytes after a call.
abbrev pub byte_step : Bytes → Call → Bytes
byte_step b g = (hub_served b g).bytes

-- What an accepted call means, one that returns 0.
abbrev pub byte_event : Bytes → Call → List Event
byte_event b g = pick (eqb (hub_served b g).number 0) (event_heard (bucket_of (lent_of b)) (heard g) (hub_served b g).answer) []

-- What the accepted calls of a list mean, in order.
abbrev pub byte_events : Bytes → List Call → List Event
byte_events b gs = gathered byte_step byte_event b gs

-- The lock clause of what a list of calls leaves of the bytes.
abbrev pub KeptSinceBytes : Bytes → List Call → Type 0
KeptSinceBytes b gs = Kept (bucket_of (lent_of (left byte_step b gs))) (since (bucket_of (lent_of b)) (byte_events b gs))

-- Demand 3: any bytes of the lengths of some c, made fresh by `knitpasture_fresh`, and any list of calls of `knitpasture_serve`.
abbrev pub Demand3Bytes : Type 0
Demand3Bytes = (c : ℕ) (b : Bytes) → Sized c b → (gs : List Call) → KeptSinceBytes (fresh_bytes b) gs
