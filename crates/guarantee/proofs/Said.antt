-- What an accepted line says.
use Prim.Native.Nat.{ℕ}
use mathlib.Core.Path.{◌≡◌, refl, sym, ◌∙◌, ap}
use mathlib.Core.Bool.{true}
use mathlib.Core.List.{List}
use Rattle.std.specs.Prelude.{Option, Some, None}
use native.Mathlib.Omega.{arith}
use lib.ListN.{length}
use Rattle.buffers.specs.Choices.{then_some}
use Rattle.buffers.specs.Lists.{same}
use Rattle.buffers.proofs.Lists.{same_path}
use Rattle.text.specs.Fields.{field_of}
use Rattle.model.specs.Requests.{Request, unreadable, says}
use Rattle.request.specs.Grammar.{Said, read_line, asked}
use Rattle.bucket.specs.Whole.{Lent}
use Rattle.outcome.specs.Calls.{Sent, line, Call, heard_of, heard}
use Rattle.outcome.specs.Outcome.{outcome}
use Rattle.outcome.proofs.Demands.{outcome_number}
use Rattle.guarantee.specs.Exchanges.{sent_field}
use Rattle.guarantee.proofs.Demands.{accepts}

-- The call sent a line that can be read, and this is heard of it.
pub record Read (g : Call) : Type 0 where
  pub bytes : List ℕ
  pub sent_is : g.sent ≡ line bytes
  pub said : Said
  pub reads : read_line bytes ≡ Some said
  pub hears : heard g ≡ says (asked (length g.answer) said)

pub heard_read : (g : Call) (q : Request) → heard g ≡ says q → Read g
heard_read g q h = by_sent g.sent refl q h
  where
    by_said : (s : List ℕ) → g.sent ≡ line s → (o : Option Said) → read_line s ≡ o → (q : Request) → then_some o (unreadable (length g.answer)) (λ x. says (asked (length g.answer) x)) ≡ says q → Read g
    by_said s t None r q h = let z : ◌≡◌ {A = ℕ} 0 1 = cc in absurd (omega arith)
    by_said s t (Some x) r q h = record { bytes = s; sent_is = t; said = x; reads = r; hears = ap (heard_of (length g.answer)) t ∙ rw r }

    by_sent : (t : Sent) → g.sent ≡ t → (q : Request) → heard g ≡ says q → Read g
    by_sent (line s) t q h = by_said s t (read_line s) refl q (sym (ap (heard_of (length g.answer)) t) ∙ h)

pub accepted_read : (b : Lent) (g : Call) → (outcome b g).number ≡ 0 → Read g
accepted_read b g z = let a = accepts b g (sym (outcome_number b g) ∙ z) in heard_read g a.request a.hears

-- A field of what was sent is the line's.
pub read_field : {g : Call} (r : Read g) (i : ℕ) → sent_field g.sent i ≡ field_of r.bytes i
read_field r i = ap (λ (s : Sent). sent_field s i) r.sent_is

pub read_same : {g : Call} (r : Read g) (i : ℕ) (x : List ℕ) → same (sent_field g.sent i) x ≡ true → field_of r.bytes i ≡ x
read_same r i x e = sym (read_field r i) ∙ same_path _ x e
