-- The lock clause: one induction over the list of lines, from a bucket that is fresh or carried over.
use Prim.Native.Nat.{ℕ, ◌<◌}
use mathlib.Core.Path.{◌≡◌}
use mathlib.Core.Logic.{inl, inr}
use mathlib.Core.Bool.{true, not}
use mathlib.Core.List.{List, [], ◌∷◌, ◌++◌, append_assoc, append-nil}
use native.Mathlib.Omega.{arith}
use lib.Dec.{eqb}
use borrow.Author.Tests.{eqb-true, not-true}
use Rattle.buffers.proofs.Tests.{either}
use Rattle.model.specs.Rows.{Row, governance, compliance}
use Rattle.model.specs.Settings.{Bucket, sound}
use Rattle.model.specs.Requests.{Verb, Context, Heard, unreadable, says}
use Rattle.model.specs.Time.{now_of}
use Rattle.model.specs.Effects.{after}
use Rattle.model.specs.Retries.{meant}
use Rattle.model.specs.Refusals.{refusal}
use Rattle.model.specs.Run.{Event, serve, run, line_event, line_events}
use Rattle.model.specs.LockClause.{History, since, time_after, bypasses, takes_off_hold, distinct, Held, InCompliance, InGovernance, OnHold, none_of, PutUnder, PutOnHold, Kept, LockClause}
use Rattle.model.proofs.Accepted.{Accepted, accepted_line}
use Rattle.model.proofs.History.{followed, time_snoc, placed_snoc, all_snoc}
use Rattle.model.proofs.Invariant.{Invariant, asked, event_of, with, invariant_after}
use Rattle.model.proofs.Locks.{Lasts, held_after, compliance_lasts, governance_lasts, hold_lasts}
use Rattle.model.proofs.Placing.{held_as, puts_held, holds_held}
use Rattle.model.proofs.Carried.{begun_invariant, begun_kept}

-- ## A lock that was placed, after one line more

-- It holds if the last line placed it, or if it was placed before and outlasts the last line.
module _ (c : ℕ) (b : Bucket) (past : History) (g : Context) (w : Verb) (p : Accepted c b g (now_of b g) w) (i : Invariant b past) where
  lasts_on : (v : ℕ) (L : Row → Type 0) → Lasts b.rows (now_of b g).judge w v L → Held b past v L → Held (after b (asked g w)) (with past b g w) v L
  lasts_on v L h s = held_after c b past g w p i v L h s

  -- The bucket's time, before and after the line.
  sooner : (d : ℕ) → time_after (with past b g w) < d → (time_after past < d) × ((now_of b g).judge < d)
  sooner d l =
      let t = time_snoc past (event_of b g w) in
      let u = i.time in
      (omega arith, omega arith)

  compliance_kept : Kept b past → (v d : ℕ) (late : List Event) → PutUnder compliance d v (with past b g w) late → time_after (with past b g w) < d → Held (after b (asked g w)) (with past b g w) v (InCompliance d)
  compliance_kept k v d late placed l =
      elim (placed_snoc _ _ past (event_of b g w) late placed) [
        | inl puts ↦ held_as (puts_held c b past g w p i compliance d v (omega arith) puts) (λ r s. (s.0, omega (arith, s.1)))
        | inr s ↦
            lasts_on v (InCompliance d) (compliance_lasts b.rows (now_of b g).judge w v d (sooner d l).1)
            (k.in_compliance v d s.0 s.1 (sooner d l).0)
      ]

  governance_kept : Kept b past → (v d : ℕ) (late : List Event) → PutUnder governance d v (with past b g w) late → none_of (bypasses v) late ≡ true → time_after (with past b g w) < d → Held (after b (asked g w)) (with past b g w) v (InGovernance d)
  governance_kept k v d late placed n l =
      elim (placed_snoc _ _ past (event_of b g w) late placed) [
        | inl puts ↦ held_as (puts_held c b past g w p i governance d v (omega arith) puts) (λ r s. (inl s.0, omega (arith, s.1)))
        | inr s ↦
            let others = all_snoc (λ x. not (bypasses v x)) s.0 (event_of b g w) (rw s.2 at n) in
            lasts_on v (InGovernance d) (governance_lasts b.rows (now_of b g).judge w v d (sooner d l).1 (not-true _ others.1))
            (k.in_governance v d s.0 s.1 others.0 (sooner d l).0)
      ]

  hold_kept : Kept b past → (v : ℕ) (late : List Event) → PutOnHold v (with past b g w) late → none_of (takes_off_hold v) late ≡ true → Held (after b (asked g w)) (with past b g w) v OnHold
  hold_kept k v late placed n =
      elim (placed_snoc _ _ past (event_of b g w) late placed) [
        | inl puts ↦ holds_held c b past g w p i v puts
        | inr s ↦
            let others = all_snoc (λ x. not (takes_off_hold v x)) s.0 (event_of b g w) (rw s.2 at n) in
            lasts_on v OnHold (hold_lasts b.rows (now_of b g).judge w v (not-true _ others.1)) (k.on_hold v s.0 s.1 others.0)
      ]

  kept_after : Kept b past → Kept (after b (asked g w)) (with past b g w)
  kept_after k = record { in_compliance = compliance_kept k; in_governance = governance_kept k; on_hold = hold_kept k }

-- ## A line, and the list

-- What holds after every line.
pub record Good (b : Bucket) (past : History) : Type 0 where
  pub invariant : Invariant b past
  pub kept : Kept b past

good_line : (c : ℕ) (b : Bucket) (past : History) (l : Heard) → Good b past → Good (serve c b l) (followed past (line_event c b l))
good_line c b past (unreadable room) k =
    elim (either (eqb (refusal c b (unreadable room)) 0)) [
      | inl e ↦ rw (e, append-nil) k
      | inr e ↦ rw (e, append-nil) k
    ]
good_line c b past (says q) k =
    elim (either (eqb (refusal c b (says q)) 0)) [
      | inl e ↦
          let p = accepted_line c b q (eqb-true (refusal c b (says q)) 0 e) in
          rw e (record {
            invariant = invariant_after c b past q.context (meant b.rows q.verb) p k.invariant;
            kept = kept_after c b past q.context (meant b.rows q.verb) p k.invariant k.kept;
          })
      | inr e ↦ rw (e, append-nil) k
    ]

-- The lists of accepted lines, joined.
joined : (b : Bucket) (past : History) (xs ys : List Event) → Good b (followed (followed past xs) ys) → Good b (followed past (xs ++ ys))
joined b past xs ys k = rw append_assoc at k

good_run : (c : ℕ) (b : Bucket) (past : History) (ls : List Heard) → Good b past → Good (run c b ls) (followed past (line_events c b ls))
good_run c b past [] k = rw append-nil k
good_run c b past (l ∷ ls) k =
    joined _ past (line_event c b l) (line_events c (serve c b l) ls)
    (good_run c (serve c b l) (followed past (line_event c b l)) ls (good_line c b past l k))

pub good_history : (c : ℕ) (b : Bucket) → sound c b ≡ true → distinct b.rows ≡ true → (ls : List Heard) → Good (run c b ls) (since b (line_events c b ls))
good_history c b s d ls = good_run c b (since b []) ls (record { invariant = begun_invariant c b s d; kept = begun_kept c b s d })

pub lock_clause : LockClause
lock_clause c b s d ls = (good_history c b s d ls).kept
