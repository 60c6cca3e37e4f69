-- A definition by `pick`, followed along a way through the code: at each test the fact that the code learnt there decides it.
use Prim.Native.Nat.{ℕ, ◌≤◌, ◌<◌}
use mathlib.Core.Path.{◌≡◌, refl, ap}
use mathlib.Core.Bool.{Bool, true, false}
use Rattle.std.specs.Prelude.{Some}
use lib.Dec.{ltb, eqb}
use borrow.Author.Tests.{lt-ltb, le-ltb, eq-eqb, ne_eqb}
use Rattle.buffers.specs.Choices.{pick}

-- What holds of both choices holds of the choice.
pub pick_ways : {A : Type 0} {x y : A} (P : A → Type 0) (t : Bool) → (t ≡ true → P x) → (t ≡ false → P y) → P (pick t x y)
pick_ways P true f g = f refl
pick_ways P false f g = g refl

module _ (A : Type 0) (v x y : A) where
  pub pick_yes : (r t : Bool) → r ≡ t → r ≡ true → v ≡ x → v ≡ pick t x y
  pick_yes r t e h q = cc

  pub pick_no : (r t : Bool) → r ≡ t → r ≡ false → v ≡ y → v ≡ pick t x y
  pick_no r t e h q = cc

  pub pick_eq : (a b : ℕ) → a ≡ b → v ≡ x → v ≡ pick (eqb a b) x y
  pick_eq a b h q = cc (eq-eqb a b h)

  pub pick_ne : (a b : ℕ) → (a ≡ b → ⊥) → v ≡ y → v ≡ pick (eqb a b) x y
  pick_ne a b h q = cc (ne_eqb a b h)

  pub pick_same : (r a b : ℕ) → r ≡ a → r ≡ b → v ≡ x → v ≡ pick (eqb a b) x y
  pick_same r a b e h q = cc (eq-eqb r b h)

  pub pick_other : (r a b : ℕ) → r ≡ a → (r ≡ b → ⊥) → v ≡ y → v ≡ pick (eqb a b) x y
  pick_other r a b e h q = cc (ne_eqb r b h)

  pub pick_lt : (a b : ℕ) → a < b → v ≡ x → v ≡ pick (ltb a b) x y
  pick_lt a b h q = cc (lt-ltb a b h)

  pub pick_ge : (a b : ℕ) → b ≤ a → v ≡ y → v ≡ pick (ltb a b) x y
  pick_ge a b h q = cc (le-ltb a b h)

-- for a chain of tests on bools
pub ruleset tests = (refl, pick_yes, pick_no)

pub ruleset picks = (refl, pick_yes, pick_no, pick_eq, pick_ne, pick_same, pick_other, pick_lt, pick_ge)
