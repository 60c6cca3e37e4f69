-- What a call leaves whose settings are lent by reference: the outcome of its line, without the answer's length, which its bytes tell: its first line feed, or that of a page's last line.
use Rattle.std.specs.Prelude.{ℕ, ◌≡◌, List, ◌++◌, drop, Result, Err}
use Rattle.model.specs.declared.Refusal.{Refusal}
use Rattle.settings.specs.declared.State.{State}
use Rattle.settings.specs.Bytes.{state_length, state_bytes, state_in, settings_bytes, settings_with, settings_of}
use Rattle.bucket.specs.Whole.{Lent, lent}
use Rattle.outcome.specs.Calls.{Call}
use Rattle.outcome.specs.Outcome.{Outcome, outcome}
use Rattle.outcome.specs.Comparisons.{comparisons_of}
use Rattle.engine.specs.declared.Counted.{Counted}
use Rattle.engine.specs.Served.{outcome_from, uncounted, count_of}

pub record LentOutcome : Type 0 where
  pub number : ℕ
  pub bucket : Lent
  pub answer : List ℕ

abbrev pub lent_outcome : ℕ → Lent → List ℕ → LentOutcome
lent_outcome n b answer = record { number = n; bucket = b; answer = answer }

abbrev pub lent_outcome_from : Outcome → LentOutcome
lent_outcome_from o = lent_outcome o.number o.bucket o.answer

-- Of settings as bytes the entries were lent: with the state that is returned they are what comes of the call, they are bytes, and a refusal left all as it was.
pub record EntriesServed (settings numbers keys : List ℕ) (g : Call) (r : Result Counted Refusal) (settings' numbers' keys' answer' : List ℕ) : Type 0 where
  pub is : outcome_from (state_in settings) (uncounted r) (drop state_length settings') numbers' keys' answer' ≡ outcome (lent (settings_of settings) numbers keys) g
  pub counted : count_of r ≡ comparisons_of (lent (settings_of settings) numbers keys) g
  pub entries_are : (s : State) → state_bytes s ++ drop state_length settings' ≡ settings_bytes (settings_with s (drop state_length settings'))
  pub kept : (k : Refusal) → r ≡ Err k → settings' ≡ settings
