-- A history with lines more at its end.
use Prim.Native.Nat.{ℕ, max}
use mathlib.Core.Path.{◌≡◌, refl, sym, ap, ap₂}
use mathlib.Core.Logic.{◌⊎◌, inl, inr}
use mathlib.Core.List.{List, [], ◌∷◌, ◌++◌, nil≢cons, head-eq_of_cons-eq, tail-eq_of_cons-eq}
use mathlib.Core.Bool.{Bool, true}
use Rattle.std.specs.Prelude.{Option}
use native.Mathlib.Omega.{arith}
use Rattle.buffers.specs.Lists.{all}
use Rattle.buffers.proofs.Lists.{all_front, all_middle}
use Rattle.model.specs.Settings.{Bucket}
use Rattle.model.specs.Run.{Event}
use Rattle.model.specs.LockClause.{History, since, time_from, time_after, carried_making, Making, making_after, making_from, made_with, Placed, carried_over, by_line}

abbrev pub followed : History → List Event → History
followed h es = since h.begun (h.lines ++ es)

-- What the versions are made with.
making_snoc : (earlier : ℕ → Option Making) (es : List Event) (e : Event) (v : ℕ) → making_from earlier (es ++ (e ∷ [])) v ≡ making_after (λ u. making_from earlier es u) e v
making_snoc earlier [] e v = refl
making_snoc earlier (x ∷ xs) e v = making_snoc (making_after earlier x) xs e v

pub made_snoc : (h : History) (e : Event) (v : ℕ) → made_with (followed h (e ∷ [])) v ≡ making_after (λ u. made_with h u) e v
made_snoc h e v = making_snoc (carried_making h.begun) h.lines e v

-- The largest clock reading.
from_snoc : (t : ℕ) (es : List Event) (e : Event) → time_from t (es ++ (e ∷ [])) ≡ max (time_from t es) e.request.context.clock
from_snoc t [] e = omega arith
from_snoc t (x ∷ xs) e = rw (from_snoc t xs e) (omega arith)

pub time_snoc : (h : History) (e : Event) → time_after (followed h (e ∷ [])) ≡ max (time_after h) e.request.context.clock
time_snoc h e = from_snoc h.begun.settings.time h.lines e

-- A list split at one of its lines: the last one, or an earlier one.
data Split (es : List Event) (x : Event) (early : List Event) (e : Event) (late : List Event) : Type 0 where
  last : early ≡ es → e ≡ x → late ≡ [] → Split es x early e late
  earlier : (rest : List Event) → es ≡ early ++ (e ∷ rest) → late ≡ rest ++ (x ∷ []) → Split es x early e late

never_nil : (xs : List Event) (e : Event) (ys : List Event) → [] ≡ xs ++ (e ∷ ys) → ⊥
never_nil [] e ys h = nil≢cons h
never_nil (x ∷ xs) e ys h = nil≢cons h

further : (a y : Event) (es : List Event) (x : Event) (early : List Event) (e : Event) (late : List Event) → a ≡ y → Split es x early e late → Split (a ∷ es) x (y ∷ early) e late
further a y es x early e late q (last p r s) = last (ap₂ (λ (z : Event) (l : List Event). z ∷ l) (sym q) p) r s
further a y es x early e late q (earlier rest p r) = earlier rest (ap₂ (λ (z : Event) (l : List Event). z ∷ l) q p) r

split_snoc : (es : List Event) (x : Event) (early : List Event) (e : Event) (late : List Event) → es ++ (x ∷ []) ≡ early ++ (e ∷ late) → Split es x early e late
split_snoc [] x [] e late h = last refl (sym (head-eq_of_cons-eq h)) (sym (tail-eq_of_cons-eq h))
split_snoc [] x (y ∷ early) e late h = absurd (never_nil early e late (tail-eq_of_cons-eq h))
split_snoc (a ∷ es) x [] e late h = earlier es (ap (λ (z : Event). z ∷ es) (head-eq_of_cons-eq h)) (sym (tail-eq_of_cons-eq h))
split_snoc (a ∷ es) x (y ∷ early) e late h = further a y es x early e late (head-eq_of_cons-eq h) (split_snoc es x early e late (tail-eq_of_cons-eq h))

-- A lock that was placed: the last line placed it, or it was placed before that.
module _ (carries : Bucket → Bool) (puts : History → Event → Bool) where
  pub placed_snoc : (h : History) (x : Event) (late : List Event) → Placed (followed h (x ∷ [])) carries puts late
      → (puts h x ≡ true) ⊎ ((rest : List Event) × Placed h carries puts rest × (late ≡ rest ++ (x ∷ [])))
  placed_snoc h x late (carried_over c l) = inr (h.lines, carried_over c refl, l)
  placed_snoc h x late (by_line early e q p) = go (split_snoc h.lines x early e late q)
    where
      go : Split h.lines x early e late → (puts h x ≡ true) ⊎ ((rest : List Event) × Placed h carries puts rest × (late ≡ rest ++ (x ∷ [])))
      go (last a y z) = inl (rw (a, y) at p)
      go (earlier rest a z) = inr (rest, by_line early e a p, z)

  -- Before the first line it was carried over.
  pub placed_first : (b : Bucket) (late : List Event) → Placed (since b []) carries puts late → carries b ≡ true
  placed_first b late (carried_over c l) = c
  placed_first b late (by_line early e q p) = absurd (never_nil early e late q)

-- A test on all lines, the last one apart.
pub all_snoc : (p : Event → Bool) (es : List Event) (x : Event) → all p (es ++ (x ∷ [])) ≡ true → (all p es ≡ true) × (p x ≡ true)
all_snoc p es x h = (all_front p es (x ∷ []) h, all_middle p es x [] h)
