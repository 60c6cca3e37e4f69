-- Of every call over bytes: its number is 0 to 13, a refusal leaves every byte as it was, and an accepted call leaves bytes that spell what its outcome leaves.
use Prim.Native.Nat.{◌*◌, ◌/◌, ◌≤◌}
use mathlib.Core.Path.{◌≡◌, refl}
use mathlib.Core.Bool.{true}
use native.Mathlib.Omega.{arith}
use lib.ListN.{length}
use Rattle.model.specs.Refusals.{last_refusal}
use Rattle.settings.specs.Bytes.{settings_length, settings_bytes}
use Rattle.settings.proofs.RoundTrip.{settings_length_lem, settings_back}
use Rattle.table.specs.Layout.{capacity}
use Rattle.bucket.specs.Whole.{Lent, whole}
use Rattle.bucket.proofs.Whole.{whole_parts}
use Rattle.outcome.specs.Calls.{Call}
use Rattle.outcome.specs.Outcome.{Outcome, outcome}
use Rattle.outcome.proofs.Demands.{accepted_of_whole}
use Rattle.outcome.proofs.Kept.{outcome_whole}
use Rattle.knitpasture.specs.Bytes.{numbers_bytes, Bytes, as_bytes, lent_of, ByteOutcome, hub_served}
use Rattle.knitpasture.proofs.Numbers.{length_bytes, numbers_back}
use Rattle.knitpasture.proofs.Left.{spelling_ways, RefusalKeeps, left_ways, left_kept, left_range}
use Rattle.knitpasture.proofs.Fits.{whole_fits, whole_words}

-- The bytes spell this bucket, and have the lengths that a call asks for.
pub record HandsOn (l : Lent) (b : Bytes) : Type 0 where
  pub spells : lent_of b ≡ l
  pub settings_long : length b.settings ≡ settings_length
  pub rows_long : length b.rows ≡ 64 * capacity l.keys
  pub keys_long : length b.keys ≡ 64 * capacity l.keys

-- What is whole is handed on.
pub whole_hands_on : (l : Lent) → whole l ≡ true → HandsOn l (as_bytes (settings_bytes l.settings) (numbers_bytes l.numbers) l.keys)
whole_hands_on l w =
    let p = whole_parts l w in
    let n = length_bytes l.numbers in
    let k : length (numbers_bytes l.numbers) / 8 ≡ length l.numbers = omega (arith, n) in
    record {
      spells = rw (k, settings_back l.settings (whole_fits l w), numbers_back l.numbers (whole_words l w));
      settings_long = settings_length_lem l.settings (whole_fits l w);
      rows_long = omega (arith, n, p.numbers_long);
      keys_long = p.keys_long;
    }

module _ (b : Bytes) (g : Call) where
  -- the outcome of the call on what the bytes spell
  abbrev core : Outcome
  core = outcome (lent_of b) g

  -- Demand 1, over bytes: the number is 0 to 13.
  pub hub_range : (hub_served b g).number ≤ last_refusal
  unfolding hub_served
  hub_range = spelling_ways b (λ (x : ByteOutcome). x.number ≤ last_refusal) (λ _. left_range (numbers_bytes core.bucket.numbers) (lent_of b) b g) (omega arith)

  pub hub_refused : RefusalKeeps b g.answer (hub_served b g)
  unfolding hub_served
  hub_refused = spelling_ways b (RefusalKeeps b g.answer) (λ _. left_kept _ core b g.answer) (λ _. refl)

  -- An accepted call leaves bytes that hand its bucket on.
  pub hub_hands_on : (hub_served b g).number ≡ 0 → HandsOn core.bucket (hub_served b g).bytes
  unfolding hub_served
  hub_hands_on =
      spelling_ways b (λ (x : ByteOutcome). x.number ≡ 0 → HandsOn core.bucket x.bytes)
      (λ _. left_ways _ core b g.answer (λ (x : ByteOutcome). x.number ≡ 0 → HandsOn core.bucket x.bytes)
      (λ z _. whole_hands_on core.bucket (outcome_whole (lent_of b) g (accepted_of_whole (lent_of b) g z)))
      (λ n e. absurd (n e)))
      (λ e. absurd (omega arith))
