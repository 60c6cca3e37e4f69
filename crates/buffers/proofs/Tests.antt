-- Laws of tests and their conjunctions.
use Prim.Native.Nat.{ℕ, ◌≤◌}
use mathlib.Core.Path.{◌≡◌, refl, sym, ◌∙◌}
use mathlib.Core.Logic.{◌⊎◌, inl, inr}
use mathlib.Core.Bool.{Bool, true, false, ◌&&◌, ◌||◌, true≢false, false≢true}
use lib.Dec.{eqb, leb}
use borrow.Author.Tests.{eqb-true, leb-true, le-leb}

-- a test is true or false
pub either : (b : Bool) → (b ≡ true) ⊎ (b ≡ false)
either true = inl refl
either false = inr refl

pub clash : (b : Bool) → b ≡ true → b ≡ false → ⊥
clash b p q = true≢false (sym p ∙ q)

pub and_i : (a b : Bool) → a ≡ true → b ≡ true → (a && b) ≡ true
and_i a b p q = rw p q

pub and_both : (a b : Bool) → (a && b) ≡ true → (a ≡ true) × (b ≡ true)
and_both true b e = (refl, e)
and_both false b e = absurd (false≢true e)

pub and_l : (a b : Bool) → (a && b) ≡ true → a ≡ true
and_l a b e = (and_both a b e).0

pub and_r : (a b : Bool) → (a && b) ≡ true → b ≡ true
and_r a b e = (and_both a b e).1

pub or_l : (a b : Bool) → a ≡ true → (a || b) ≡ true
or_l a b p = rw p

pub or_r : (a b : Bool) → b ≡ true → (a || b) ≡ true
or_r true b p = refl
or_r false b p = p

pub or_one : (a b : Bool) → (a || b) ≡ true → (a ≡ true) ⊎ (b ≡ true)
or_one true b e = inl refl
or_one false b e = inr e

pub or_none : (a b : Bool) → (a || b) ≡ false → (a ≡ false) × (b ≡ false)
or_none true b e = absurd (true≢false e)
or_none false b e = (refl, e)

-- A test that holds only of equal things doesn't mind their order.
pub test_sym : {A : Type 0} (t : A → A → Bool) → ((a b : A) → t a b ≡ true → a ≡ b) → (a b : A) → t a b ≡ t b a
test_sym t f a b =
    elim (either (t a b)) [
      | inl e ↦ rw (f a b e)
      | inr e ↦ elim (either (t b a)) [
        | inl d ↦ rw (f b a d)
        | inr d ↦ e ∙ sym d
      ]
    ]

pub eqb_sym : (a b : ℕ) → eqb a b ≡ eqb b a
eqb_sym = test_sym eqb eqb-true

-- Bounds that hold together have the same test.
pub leb_same : (a b c d : ℕ) → (a ≤ b → c ≤ d) → (c ≤ d → a ≤ b) → leb a b ≡ leb c d
leb_same a b c d f g =
    elim (either (leb a b)) [
      | inl e ↦ e ∙ sym (le-leb c d (f (leb-true a b e)))
      | inr e ↦ elim (either (leb c d)) [
        | inl h ↦ absurd (clash (leb a b) (le-leb a b (g (leb-true c d h))) e)
        | inr h ↦ e ∙ sym h
      ]
    ]
