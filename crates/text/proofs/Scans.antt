-- Loops over a text: what holds of the whole equals what holds of the rest from where the loop stands.
use Prim.Native.Nat.{ℕ, suc, ◌+◌, ◌<◌}
use mathlib.Core.Path.{◌≡◌, refl, sym, ap, ◌∙◌}
use mathlib.Core.Logic.{inl, inr}
use mathlib.Core.Bool.{Bool, true, false, ◌&&◌, false≢true}
use mathlib.Core.List.{List, [], ◌∷◌}
use native.Mathlib.Omega.{arith}
use native.Mathlib.Numerals.{add-one}
use lib.ListN.{length, get_or, take, drop}
use lib.Seq.{drop-cons}
use lib.Dec.{eqb}
use lib.Pointwise.{pointwise}
use Rattle.std.specs.Bool.{Decides}
use Rattle.std.specs.List.{starts_with}
use Rattle.buffers.specs.Choices.{pick}
use Rattle.buffers.specs.Lists.{same, begins}
use Rattle.buffers.proofs.Lists.{same_refl, same_path}
use Rattle.buffers.proofs.Tests.{either}

-- ## The rest of a list

pub next : (s : List ℕ) (i : ℕ) → i < length s → drop i s ≡ get_or s i 0 ∷ drop (i + 1) s
next s i h = rw (add-one, drop-cons s i 0)

-- ## Texts that are compared

and_pick : (a b : Bool) → (a && b) ≡ pick a b false
and_pick true b = refl
and_pick false b = refl

pub begins_short : (t s : List ℕ) → length s < length t → false ≡ begins t s
begins_short [] s h = absurd (omega arith)
begins_short (x ∷ t) [] h = refl
begins_short (x ∷ t) (y ∷ s) h = go (eqb x y) (begins_short t s (omega arith))
  where
    go : (b : Bool) → false ≡ begins t s → false ≡ pick b (begins t s) false
    go true e = e
    go false e = refl

begins_as : (t s : List ℕ) → pointwise eqb t (take (length t) s) ≡ begins t s
begins_as [] s = refl
begins_as (x ∷ t) [] = refl
begins_as (x ∷ t) (y ∷ s) = rw (begins_as t s) (and_pick (eqb x y) (begins t s))

pub begins_is : (r : Bool) (t s : List ℕ) → r ≡ starts_with eqb s t → r ≡ begins t s
begins_is r t s e = e ∙ begins_as t s

-- ## Two texts are the same

pub same_decides : (r : Bool) (s t : List ℕ) → Decides r (s ≡ t) → r ≡ same s t
same_decides true s t d = let e : s ≡ t = d.0 refl in rw (← e) (sym (same_refl s))
same_decides false s t d =
    elim (either (same s t)) [
      | inl e ↦ absurd (false≢true (d.1 (same_path s t e)))
      | inr e ↦ sym e
    ]

pub same_length : (s t : List ℕ) → (length s ≡ length t → ⊥) → false ≡ same s t
same_length [] [] h = absurd (h refl)
same_length [] (y ∷ t) h = refl
same_length (x ∷ s) [] h = refl
same_length (x ∷ s) (y ∷ t) h = go (eqb x y) (same_length s t (λ e. h (ap suc e)))
  where
    go : (b : Bool) → false ≡ same s t → false ≡ pick b (same s t) false
    go true e = e
    go false e = refl
