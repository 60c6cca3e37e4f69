-- The lock clause over calls, demand 3, and the journal of accepted calls.
use Prim.Native.Nat.{ℕ, ◌*◌, ◌≤◌}
use mathlib.Core.Path.{◌≡◌, refl, ap}
use mathlib.Core.Logic.{inl, inr}
use mathlib.Core.List.{List, [], ◌∷◌, map}
use native.Mathlib.Omega.{arith}
use lib.ListN.{length-replicate}
use borrow.Author.Tests.{eqb-false}
use Rattle.buffers.proofs.Tests.{either}
use Rattle.model.specs.Run.{left}
use Rattle.model.proofs.LockClause.{lock_clause}
use Rattle.table.specs.Layout.{capacity}
use Rattle.bucket.specs.Whole.{Lent, fresh_lent, bucket_of}
use Rattle.bucket.proofs.Whole.{whole_parts, fresh_whole}
use Rattle.outcome.specs.Calls.{Call, heard}
use Rattle.outcome.specs.Outcome.{Outcome, outcome}
use Rattle.outcome.proofs.Demands.{outcome_refused}
use Rattle.guarantee.specs.Calls.{step, is_accepted, accepted_calls}
use Rattle.guarantee.specs.Promise.{Demand3}
use Rattle.guarantee.specs.Carried.{Carriable, RunsOn}
use Rattle.guarantee.proofs.Runs.{Whole, held_left, events_left}

-- ## The lock clause from any whole bucket whose version numbers all differ (M-106), and demand 3

pub runs_on : RunsOn
runs_on b p gs =
    let c = capacity b.keys in
    let w : Whole c b = record { is_whole = p.is_whole; size = refl } in
    rw (held_left c b gs w, events_left c b gs w) (lock_clause c (bucket_of b) (whole_parts b p.is_whole).is_sound p.numbers_differ (map heard gs))

pub fresh_capacity : (c : ℕ) → capacity (fresh_lent c).keys ≡ c
fresh_capacity c = let e = length-replicate {A = ℕ} (64 * c) 0 in omega arith

pub fresh_carriable : (c : ℕ) → 1 ≤ c → c ≤ 1024 → Carriable (fresh_lent c)
fresh_carriable c some most = record { is_whole = fresh_whole c some most; numbers_differ = refl }

pub demand_3 : Demand3
demand_3 c some most gs = runs_on (fresh_lent c) (fresh_carriable c some most) gs

-- ## The journal

-- Running only the accepted calls of a list leaves what the whole list leaves.
pub replay : (b : Lent) (gs : List Call) → left step b (accepted_calls b gs) ≡ left step b gs
replay b [] = refl
replay b (g ∷ gs) =
    elim (either (is_accepted b g)) [
      | inl t ↦ rw t (replay (step b g) gs)
      | inr t ↦
          let same : step b g ≡ b = ap (λ (o : Outcome). o.bucket) (outcome_refused b g (eqb-false (outcome b g).number 0 t)) in
          rw (t, same) (replay b gs)
    ]
