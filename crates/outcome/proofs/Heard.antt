-- Calls of which the same is heard leave and print the same: of an answer buffer only the length counts, and of a line only what it reads as.
use Prim.Native.Nat.{ℕ}
use mathlib.Core.Path.{◌≡◌, refl, ap}
use mathlib.Core.Bool.{Bool, true, false}
use mathlib.Core.List.{List}
use lib.Dec.{eqb}
use lib.ListN.{length, drop}
use lib.Seq.{take-append_seam, drop-append_seam}
use Rattle.buffers.specs.Choices.{pick}
use Rattle.model.specs.Requests.{Request, Heard, unreadable, says}
use Rattle.request.specs.Grammar.{read_line}
use Rattle.bucket.specs.Whole.{Lent}
use Rattle.outcome.specs.Calls.{Call, call, line, heard_of, heard}
use Rattle.outcome.specs.Outcome.{Outcome, refused, accepted, accept, refusal_of, outcome}
use Rattle.outcome.specs.Printed.{printed_of}

module _ (b : Lent) (g g' : Call) where
  -- What holds of two refusals with one number and of one request accepted twice, holds of the outcomes.
  pub both_outcomes : (P : Outcome → Outcome → Type 0) → ((k : ℕ) → P (refused k b g.answer) (refused k b g'.answer))
      → ((q : Request) → P (accepted b q g.answer) (accepted b q g'.answer)) → heard g ≡ heard g' → P (outcome b g) (outcome b g')
  unfolding outcome refusal_of
  both_outcomes P x y e = rw e (go (eqb (refusal_of b g') 0) (heard g') (refusal_of b g'))
    where
      go : (t : Bool) (h : Heard) (k : ℕ) → P (pick t (accept b h g.answer) (refused k b g.answer)) (pick t (accept b h g'.answer) (refused k b g'.answer))
      go false h k = x k
      go true (unreadable room) k = x 3
      go true (says q) k = y q

  pub same_left : heard g ≡ heard g' → (outcome b g).bucket ≡ (outcome b g').bucket
  same_left = both_outcomes (λ o p. o.bucket ≡ p.bucket) (λ k. refl) (λ q. refl)

  pub same_printed : heard g ≡ heard g' → printed_of (outcome b g) ≡ printed_of (outcome b g')
  same_printed = both_outcomes (λ o p. printed_of o ≡ printed_of p) (λ k. refl) (λ q. simp take-append_seam)

-- Behind what is printed the answer buffer is as it was.
pub same_behind : (b : Lent) (g : Call) → drop (length (printed_of (outcome b g))) (outcome b g).answer ≡ drop (length (printed_of (outcome b g))) g.answer
same_behind b g =
    both_outcomes b g g (λ o p. drop (length (printed_of o)) o.answer ≡ drop (length (printed_of o)) g.answer) (λ k. refl) (λ q. simp (take-append_seam, drop-append_seam)) refl

pub length_heard : (l a a' : List ℕ) → length a ≡ length a' → heard (call l a) ≡ heard (call l a')
length_heard l a a' e = ap (λ (n : ℕ). heard_of n (line l)) e

-- Two lines that read the same have the same outcome.
pub same_outcome : (b : Lent) (l l' a : List ℕ) → read_line l ≡ read_line l' → outcome b (call l a) ≡ outcome b (call l' a)
unfolding outcome refusal_of
same_outcome b l l' a e = rw e
