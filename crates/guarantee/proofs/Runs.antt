-- A list of calls on a whole bucket is the model's run of what is heard of them.
use Prim.Native.Nat.{ℕ}
use mathlib.Core.Path.{◌≡◌, ◌∙◌, ap, fun_ext}
use mathlib.Core.Logic.{inl, inr}
use mathlib.Core.Bool.{Bool, true}
use mathlib.Core.List.{List, [], ◌∷◌, map}
use lib.Dec.{eqb}
use borrow.Author.Tests.{eqb-true, eqb-false, ne_eqb}
use Rattle.buffers.proofs.Tests.{either}
use Rattle.model.specs.Time.{now_of}
use Rattle.model.specs.Retries.{meaning}
use Rattle.model.specs.Refusals.{refusal}
use Rattle.model.specs.Run as model
use Rattle.model.specs.Run.{left}
use Rattle.model.proofs.Runs.{left_as, gathered_as}
use Rattle.table.specs.Layout.{capacity}
use Rattle.bucket.specs.Whole.{Lent, bucket_of, whole}
use Rattle.outcome.specs.Calls.{Call, heard}
use Rattle.outcome.specs.Outcome.{refusal_of, outcome}
use Rattle.outcome.proofs.Demands.{refused_unchanged}
use Rattle.outcome.proofs.Kept.{model_refusal, accepted_bucket, accepted_capacity, outcome_whole}
use Rattle.guarantee.specs.Calls.{step, call_event, call_events}
use Rattle.guarantee.specs.Promise.{Accepted}
use Rattle.guarantee.proofs.Demands.{accepts}
use Rattle.guarantee.proofs.Answering.{answered_is}

-- A lent bucket of this capacity that refusal 1 does not meet.
pub record Whole (c : ℕ) (b : Lent) : Type 0 where
  pub is_whole : whole b ≡ true
  pub size : capacity b.keys ≡ c

-- ## One call

-- It leaves and says what the model does.
record Follows (c : ℕ) (b : Lent) (g : Call) : Type 0 where
  pub size : capacity (step b g).keys ≡ c
  pub bucket_is : bucket_of (step b g) ≡ model.serve c (bucket_of b) (heard g)
  pub event_is : call_event b g ≡ model.line_event c (bucket_of b) (heard g)

module _ (c : ℕ) (b : Lent) (g : Call) (w : Whole c b) where
  same_refusal : refusal_of b g ≡ refusal c (bucket_of b) (heard g)
  same_refusal = rw (← w.size) (model_refusal b g w.is_whole)

  accepted_follows : Accepted outcome b g → refusal_of b g ≡ 0 → Follows c b g
  accepted_follows a z =
      let x = bucket_of b in
      let q = a.request in
      let m = meaning x q in
      record {
        size = rw (step, a.does) (accepted_capacity b.keys _ ∙ w.size);
        bucket_is = rw (← same_refusal, z, step, a.hears) (accepted_bucket b g q w.is_whole a.hears z);
        event_is = rw (← same_refusal, z, a.does, a.hears)
            (ap (λ (f : ℕ → Bool). record { before = x; request = m; answered = f } ∷ []) (fun_ext (answered_is x (now_of x q.context) q.context.who m.verb g.answer)));
      }

  refused_follows : (refusal_of b g ≡ 0 → ⊥) → Follows c b g
  refused_follows z =
      let n = ne_eqb (refusal_of b g) 0 z in
      let u = refused_unchanged b g z in
      record { size = rw (step, u) w.size; bucket_is = rw (← same_refusal, n, step, u); event_is = rw (← same_refusal, u, n) }

  follows : Follows c b g
  follows = elim (either (eqb (refusal_of b g) 0)) [
    | inl t ↦ let z = eqb-true (refusal_of b g) 0 t in accepted_follows (accepts b g z) z
    | inr t ↦ refused_follows (eqb-false (refusal_of b g) 0 t)
  ]

  pub whole_after : Whole c (step b g)
  whole_after = record { is_whole = outcome_whole b g w.is_whole; size = follows.size }

-- ## A list of calls

module _ (c : ℕ) where
  pub held_left : (b : Lent) (gs : List Call) → Whole c b → bucket_of (left step b gs) ≡ model.run c (bucket_of b) (map heard gs)
  held_left = left_as step (model.serve c) bucket_of heard (Whole c) (whole_after c) (λ b g w. (follows c b g w).bucket_is)

  pub events_left : (b : Lent) (gs : List Call) → Whole c b → call_events b gs ≡ model.line_events c (bucket_of b) (map heard gs)
  events_left =
      gathered_as step (model.serve c) bucket_of heard (Whole c) (whole_after c) (λ b g w. (follows c b g w).bucket_is) call_event (model.line_event c) (λ b g w. (follows c b g w).event_is)
