-- Of every outcome: its number is 0 or a refusal's, a refusal is the first condition that holds, and it leaves everything as it was.
use Prim.Native.Nat.{ℕ, ◌≤◌}
use mathlib.Core.Path.{◌≡◌, refl, sym, ◌∙◌, ap}
use mathlib.Core.Logic.{inl, inr}
use mathlib.Core.Bool.{Bool, true, false, false≢true}
use native.Mathlib.Omega.{arith}
use lib.Dec.{eqb, ltb}
use borrow.Author.Tests.{eqb-true, eqb-false, ne_eqb}
use Rattle.buffers.proofs.Tests.{either}
use Rattle.model.specs.Requests.{Request, Heard, unreadable, says}
use Rattle.model.specs.Refusals.{FirstHolds, first_of, last_refusal, checks}
use Rattle.model.proofs.Facts.{first_most, first_holds, first_among}
use Rattle.table.specs.Layout.{capacity}
use Rattle.bucket.specs.Whole.{Lent, bucket_of, whole}
use Rattle.outcome.specs.Calls.{Call, heard}
use Rattle.outcome.specs.Outcome.{Outcome, refused, accepted, conditions, refusal_of, outcome}

module _ (b : Lent) (g : Call) where
  -- Demand 1: the number is 0 or a refusal's.
  pub refusal_range : refusal_of b g ≤ last_refusal
  unfolding refusal_of
  refusal_range = go (heard g)
    where
      go : (h : Heard) → first_of (checks (whole b) (capacity b.keys) (bucket_of b) h) ≤ last_refusal
      go (unreadable room) = first_most last_refusal (checks (whole b) (capacity b.keys) (bucket_of b) (unreadable room)) refl
      go (says q) = first_most last_refusal (checks (whole b) (capacity b.keys) (bucket_of b) (says q)) refl

  -- Demand 2: a refusal comes where its condition is the first in order to hold.
  pub refusal_first : (n : ℕ) → refusal_of b g ≡ n → (n ≡ 0 → ⊥) → FirstHolds (conditions b g) n
  unfolding refusal_of
  refusal_first n e z = first_holds (conditions b g) n e z

  -- A refused call leaves bucket and answer buffer as they were.
  pub refused_unchanged : (refusal_of b g ≡ 0 → ⊥) → outcome b g ≡ refused (refusal_of b g) b g.answer
  unfolding outcome
  refused_unchanged z = rw (ne_eqb (refusal_of b g) 0 z)

  -- What is unreadable is refused.
  pub unreadable_refused : (room : ℕ) → heard g ≡ unreadable room → refusal_of b g ≡ 0 → ⊥
  unfolding refusal_of
  unreadable_refused room e z = go (whole b) refl
    where
      go : (w : Bool) → whole b ≡ w → ⊥
      go true q = elim (either (ltb room 256)) [
        | inl t ↦ omega (arith, simp (e, q, t) at z)
        | inr t ↦ omega (arith, simp (e, q, t) at z)
      ]
      go false q = omega (arith, simp (e, q) at z)

  -- With no condition holding the request is accepted, and does what the definitions say.
  pub accepted_request : (q : Request) → heard g ≡ says q → refusal_of b g ≡ 0 → outcome b g ≡ accepted b q g.answer
  unfolding outcome
  accepted_request q e z = simp (z, e)

  -- The number of an outcome is the refusal, 0 where there is none.
  pub outcome_number : (outcome b g).number ≡ refusal_of b g
  outcome_number =
      elim (either (eqb (refusal_of b g) 0)) [
        | inl t ↦ go (heard g) refl (eqb-true (refusal_of b g) 0 t)
        | inr t ↦ ap (λ (o : Outcome). o.number) (refused_unchanged (eqb-false (refusal_of b g) 0 t))
      ]
    where
      go : (h : Heard) → heard g ≡ h → refusal_of b g ≡ 0 → (outcome b g).number ≡ refusal_of b g
      go (unreadable room) e z = absurd (unreadable_refused room e z)
      go (says q) e z = ap (λ (o : Outcome). o.number) (accepted_request q e z) ∙ sym z

  -- An outcome with a refusal's number left everything as it was.
  pub outcome_refused : ((outcome b g).number ≡ 0 → ⊥) → outcome b g ≡ refused (outcome b g).number b g.answer
  outcome_refused z = refused_unchanged (λ q. z (outcome_number ∙ q)) ∙ ap (λ (k : ℕ). refused k b g.answer) (sym outcome_number)

  -- Refusal 1 meets every call on a bucket that is not whole,
  pub whole_unless_1 : ((outcome b g).number ≡ 1 → ⊥) → whole b ≡ true
  unfolding refusal_of
  whole_unless_1 n = elim (either (whole b)) [ inl w ↦ w | inr w ↦ absurd (n (outcome_number ∙ rw w)) ]

  -- so that an accepted one tells that it is,
  pub accepted_of_whole : (outcome b g).number ≡ 0 → whole b ≡ true
  accepted_of_whole z = whole_unless_1 (λ e. omega arith)

  -- and none on one that is.
  pub whole_not_1 : whole b ≡ true → (outcome b g).number ≡ 1 → ⊥
  unfolding refusal_of
  whole_not_1 w e = go (heard g) (rw w at (sym outcome_number ∙ e))
    where
      go : (h : Heard) → first_of (checks true (capacity b.keys) (bucket_of b) h) ≡ 1 → ⊥
      go (unreadable room) e = false≢true (first_among (checks true (capacity b.keys) (bucket_of b) (unreadable room)) 1 e (λ z. omega arith))
      go (says q) e = false≢true (first_among (checks true (capacity b.keys) (bucket_of b) (says q)) 1 e (λ z. omega arith))
