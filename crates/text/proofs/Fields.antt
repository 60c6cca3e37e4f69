-- The fields of a line, and the loops that find them.
use Prim.Native.Nat.{ℕ, zero, suc, ◌+◌, ◌-◌, ◌≤◌, ◌<◌}
use mathlib.Core.Path.{◌≡◌, refl, sym, ap, ◌∙◌}
use mathlib.Core.Logic.{inl, inr}
use mathlib.Core.Bool.{Bool, true, false}
use mathlib.Core.List.{List, [], ◌∷◌}
use native.Mathlib.Omega.{arith}
use lib.Dec.{eqb}
use lib.ListN.{length, get_or, take, drop, length-drop}
use borrow.Author.Tests.{eq-eqb, ne_eqb, eqb-true, eqb-false}
use Rattle.buffers.specs.Choices.{pick}
use Rattle.buffers.proofs.Tests.{either}
use Rattle.text.specs.declared.Place.{Place}
use Rattle.text.specs.Fields.{on_first, fields, field_of, tab_at, start_of, end_of, place_of, part_of}

-- ## The first byte and its field

field_zero : (b : ℕ) (s : List ℕ) → field_of (b ∷ s) 0 ≡ pick (eqb b 9) [] (b ∷ field_of s 0)
unfolding field_of
field_zero b s = go (eqb b 9)
  where
    on : (fs : List (List ℕ)) → get_or (on_first b fs) 0 [] ≡ b ∷ get_or fs 0 []
    on [] = refl
    on (f ∷ fs) = refl

    go : (t : Bool) → get_or (pick t ([] ∷ fields s) (on_first b (fields s))) 0 [] ≡ pick t [] (b ∷ get_or (fields s) 0 [])
    go true = refl
    go false = on (fields s)

field_suc : (b : ℕ) (s : List ℕ) (i : ℕ) → field_of (b ∷ s) (suc i) ≡ field_of s (suc i - tab_at b)
unfolding field_of
field_suc b s i = go (eqb b 9)
  where
    on : (fs : List (List ℕ)) → get_or (on_first b fs) (suc i) [] ≡ get_or fs (suc i) []
    on [] = refl
    on (f ∷ fs) = refl

    go : (t : Bool) → get_or (pick t ([] ∷ fields s) (on_first b (fields s))) (suc i) [] ≡ get_or (fields s) (suc i - pick t 1 0) []
    go true = let z : i ≡ suc i - 1 = omega arith in ap (λ (k : ℕ). get_or (fields s) k []) z
    go false = let z : suc i ≡ suc i - 0 = omega arith in on (fields s) ∙ ap (λ (k : ℕ). get_or (fields s) k []) z

-- ## The start of a field

pub start_zero : (s : List ℕ) → start_of s 0 ≡ 0
start_zero [] = refl
start_zero (b ∷ s) = refl

-- One byte on: a tab ends field 0, any other byte belongs to it.
pub end_tab : (b : ℕ) (s : List ℕ) (i : ℕ) → b ≡ 9 → end_of (b ∷ s) (suc i) ≡ suc (end_of s i)
end_tab b s i h = let z : suc i - 1 ≡ i = omega arith in rw (eq-eqb b 9 h, z)

pub end_other : (b : ℕ) (s : List ℕ) (i : ℕ) → (b ≡ 9 → ⊥) → end_of (b ∷ s) i ≡ suc (end_of s i)
end_other b s zero h = rw (ne_eqb b 9 h)
end_other b s (suc i) h = let z : suc i - 0 ≡ suc i = omega arith in rw (ne_eqb b 9 h, z)

start_tab : (b : ℕ) (s : List ℕ) (i : ℕ) → b ≡ 9 → start_of (b ∷ s) (suc i) ≡ suc (start_of s i)
start_tab b s i h = let z : suc i - 1 ≡ i = omega arith in rw (eq-eqb b 9 h, z)

start_other : (b : ℕ) (s : List ℕ) (i : ℕ) → (b ≡ 9 → ⊥) → start_of (b ∷ s) (suc i) ≡ suc (start_of s (suc i))
start_other b s i h = let z : suc i - 0 ≡ suc i = omega arith in rw (ne_eqb b 9 h, z)

-- Behind the tab that ends a field the next one starts.
pub next_start : (s : List ℕ) (i : ℕ) → end_of s i < length s → start_of s (suc i) ≡ suc (end_of s i)
next_start [] i h = absurd (omega arith)
next_start (b ∷ s) zero h =
    elim (either (eqb b 9)) [
      | inl t ↦ start_tab b s 0 (eqb-true b 9 t) ∙ rw (start_zero s, t)
      | inr t ↦
          let q = eqb-false b 9 t in
          let e = end_other b s 0 q in
          start_other b s 0 q ∙ ap suc (next_start s 0 (omega arith)) ∙ ap suc (sym e)
    ]
next_start (b ∷ s) (suc i) h =
    elim (either (eqb b 9)) [
      | inl t ↦
          let q = eqb-true b 9 t in
          let e = end_tab b s i q in
          start_tab b s (suc i) q ∙ ap suc (next_start s i (omega arith)) ∙ ap suc (sym e)
      | inr t ↦
          let q = eqb-false b 9 t in
          let e = end_other b s (suc i) q in
          start_other b s (suc i) q ∙ ap suc (next_start s (suc i) (omega arith)) ∙ ap suc (sym e)
    ]

-- Behind a field that the line's end ends, the others start at that end.
pub last_start : (s : List ℕ) (i : ℕ) → length s ≤ end_of s i → start_of s (suc i) ≡ end_of s i
last_start [] i h = refl
last_start (b ∷ s) zero h =
    elim (either (eqb b 9)) [
      | inl t ↦ let k : suc (length s) ≤ 0 = rw t at h in absurd (omega arith)
      | inr t ↦
          let q = eqb-false b 9 t in
          let e = end_other b s 0 q in
          start_other b s 0 q ∙ ap suc (last_start s 0 (omega arith)) ∙ sym e
    ]
last_start (b ∷ s) (suc i) h =
    elim (either (eqb b 9)) [
      | inl t ↦
          let q = eqb-true b 9 t in
          let e = end_tab b s i q in
          start_tab b s (suc i) q ∙ ap suc (last_start s i (omega arith)) ∙ sym e
      | inr t ↦
          let q = eqb-false b 9 t in
          let e = end_other b s (suc i) q in
          start_other b s (suc i) q ∙ ap suc (last_start s (suc i) (omega arith)) ∙ sym e
    ]

-- A field ends as many bytes behind its start as it has.
pub end_is : (s : List ℕ) (i : ℕ) → end_of s i ≡ start_of s i + length (field_of s i)
unfolding field_of
end_is [] zero = refl
end_is [] (suc i) = refl
end_is (b ∷ s) zero = rw (field_zero b s) (go (eqb b 9) (end_is s 0))
  where
    go : (t : Bool) → end_of s 0 ≡ start_of s 0 + length (field_of s 0) → pick t 0 (suc (end_of s 0)) ≡ 0 + length (pick t [] (b ∷ field_of s 0))
    go true e = refl
    go false e = omega (arith, start_zero s)
end_is (b ∷ s) (suc i) = rw (field_suc b s i) (let e = end_is s (suc i - tab_at b) in omega arith)

-- ## The place of a field

first_most : (s : List ℕ) → length (field_of s 0) ≤ length s
unfolding field_of
first_most [] = omega arith
first_most (b ∷ s) = rw (field_zero b s) (go (eqb b 9) (first_most s))
  where
    go : (t : Bool) → length (field_of s 0) ≤ length s → length (pick t [] (b ∷ field_of s 0)) ≤ suc (length s)
    go true h = omega arith
    go false h = omega arith

first_taken : (s : List ℕ) → take (length (field_of s 0)) s ≡ field_of s 0
unfolding field_of
first_taken [] = refl
first_taken (b ∷ s) = rw (field_zero b s) (go (eqb b 9) (first_taken s))
  where
    go : (t : Bool) → take (length (field_of s 0)) s ≡ field_of s 0 → take (length (pick t [] (b ∷ field_of s 0))) (b ∷ s) ≡ pick t [] (b ∷ field_of s 0)
    go true h = refl
    go false h = ap (λ (l : List ℕ). b ∷ l) h

-- Field i is the first field of what stands from its start on.
from_start : (s : List ℕ) (i : ℕ) → field_of (drop (start_of s i) s) 0 ≡ field_of s i
unfolding field_of
from_start [] zero = refl
from_start [] (suc i) = refl
from_start (b ∷ s) zero = refl
from_start (b ∷ s) (suc i) = from_start s (suc i - tab_at b) ∙ sym (field_suc b s i)

start_most : (s : List ℕ) (i : ℕ) → start_of s i ≤ length s
start_most [] i = omega arith
start_most (b ∷ s) zero = omega arith
start_most (b ∷ s) (suc i) = let h = start_most s (suc i - tab_at b) in omega arith

-- A place lies within its line.
pub place_within : (s : List ℕ) (i : ℕ) → (place_of s i).start + (place_of s i).len ≤ length s
unfolding place_of
place_within s i =
    let e = ap length (from_start s i) in
    let m = first_most (drop (start_of s i) s) in
    let d = length-drop (start_of s i) s in
    let k = start_most s i in
    omega arith

pub end_most : (s : List ℕ) (i : ℕ) → end_of s i ≤ length s
unfolding place_of
end_most s i = let d = end_is s i in let w = place_within s i in omega arith

-- The part of a line at a field's place is the field.
pub place_field : (s : List ℕ) (i : ℕ) → part_of s (place_of s i) ≡ field_of s i
unfolding place_of
place_field s i = rw (← from_start s i) (first_taken (drop (start_of s i) s))

module _ (s : List ℕ) (i : ℕ) (p : Place) (f : p ≡ place_of s i) where
  pub found_within : p.start + p.len ≤ length s
  found_within = rw f (place_within s i)

  pub found_field : (t : List ℕ) → t ≡ part_of s p → t ≡ field_of s i
  found_field t e = e ∙ ap (λ (x : Place). part_of s x) f ∙ place_field s i

pub ruleset found = (found_within, found_field)
