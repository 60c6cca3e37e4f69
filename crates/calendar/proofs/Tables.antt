-- Finite facts by computing, and tests on results that callees give.
use Prim.Native.Nat.{ℕ, zero, suc, ◌≤◌, ◌<◌}
use mathlib.Core.Path.{◌≡◌}
use mathlib.Core.Logic.{inl, inr}
use mathlib.Core.Bool.{Bool, true, ◌&&◌}
use native.Mathlib.Omega.{arith}
use native.Mathlib.Nat.{not-suc-le-zero}
use lib.Dec.{ltb}
use borrow.Author.Tests.{lt-ltb, le-ltb, ltb-true, ltb-false}
use Rattle.buffers.specs.Choices.{pick}
use Rattle.buffers.proofs.Tests.{either, and_l, and_r}

-- the test passes at each number below k
abbrev pub upto : ℕ → (ℕ → Bool) → Bool
upto zero f = true
upto (suc k) f = f k && upto k f

pub upto_at : (k : ℕ) (f : ℕ → Bool) → upto k f ≡ true → (n : ℕ) → n < k → f n ≡ true
upto_at zero f t n h = absurd (not-suc-le-zero h)
upto_at (suc k) f t n h =
    elim (either (ltb n k)) [
      | inl e ↦ upto_at k f (and_r (f k) _ t) n (ltb-true n k e)
      | inr e ↦ let q : n ≡ k = omega (arith, ltb-false n k e) in rw q (and_l (f k) _ t)
    ]

module _ (A : Type 0) (v x y : A) (r a b : ℕ) where
  pub pick_below : r ≡ b → a < r → v ≡ x → v ≡ pick (ltb a b) x y
  pick_below e h q = cc (lt-ltb a r h)

  pub pick_above : r ≡ b → r ≤ a → v ≡ y → v ≡ pick (ltb a b) x y
  pick_above e h q = cc (le-ltb a r h)

pub ruleset measures = (pick_below, pick_above)
