-- Laws of lines: where the first one ends, and what is left behind it.
use Prim.Native.Nat.{ℕ, zero, suc, ◌+◌, ◌≤◌, ◌<◌}
use mathlib.Core.Path.{◌≡◌, refl, sym, ap, ◌∙◌, subst}
use mathlib.Core.Logic.{inl, inr}
use mathlib.Core.Bool.{Bool, true, false}
use mathlib.Core.List.{List, [], ◌∷◌, ◌++◌}
use native.Mathlib.Omega.{arith}
use lib.Dec.{eqb}
use lib.ListN.{length, get_or, take, drop}
use lib.Seq.{drop-drop}
use Rattle.buffers.specs.Ranges.{Within}
use Rattle.buffers.proofs.Tests.{either, or_none}
use Rattle.text.specs.Fields.{on_first}
use Rattle.text.specs.Keys.{contains}
use Rattle.text.specs.Lines.{lines_of, feed_at}
use Rattle.std.specs.Prelude.{Option, Some, None, unwrap_or}
use Rattle.memchr.specs.Find.{IsFirstByte, is_byte}
use Rattle.text.proofs.Scans.{next}

-- ## Bytes without a line feed

pub feed_clear : (s u : List ℕ) → contains s 10 ≡ false → feed_at (s ++ u) ≡ length s + feed_at u
feed_clear [] u e = omega arith
feed_clear (b ∷ s) u e =
    let p = or_none (eqb b 10) (contains s 10) e in
    let x = feed_clear s u p.1 in
    rw p.0 (omega arith)

-- ## The first line's length

untrue : (t : Bool) → (t ≡ true → ⊥) → t ≡ false
untrue true h = absurd (h refl)
untrue false h = refl

feed_is : (s : List ℕ) (k : ℕ) → k ≤ length s → ((j : ℕ) → j < k → eqb (get_or s j 0) 10 ≡ false) → (k < length s → eqb (get_or s k 0) 10 ≡ true) → feed_at s ≡ k
feed_is [] k h n t = omega arith
feed_is (b ∷ s) zero h n t = rw (t (omega arith))
feed_is (b ∷ s) (suc k) h n t = rw (n 0 (omega arith)) (ap suc (feed_is s k (omega arith) (λ j g. n (suc j) (omega arith)) (λ g. t (omega arith))))

-- What a search for the line feed gives, or else the length.
pub feed_found : (s : List ℕ) (r : Option ℕ) (n : ℕ) → IsFirstByte (is_byte 10) s r → n ≡ unwrap_or r (length s) → Within n (feed_at s) (length s)
feed_found s None n f e =
    let q = feed_is s (length s) (omega arith) (λ j h. untrue (eqb (get_or s j 0) 10) (f j (omega arith) h)) (λ h. absurd (omega arith)) in
    record { is = e ∙ sym q; most = omega arith }
feed_found s (Some k) n f e =
    let a = f.0 in
    let q = feed_is s k (omega arith) (λ j h. untrue (eqb (get_or s j 0) 10) (a.before j (omega arith) h)) (λ h. f.1) in
    record { is = e ∙ sym q; most = omega arith }

-- ## The first line and the lines behind it

pub first_more : (b : ℕ) (f : List ℕ) (fs gs : List (List ℕ)) → gs ≡ f ∷ fs → on_first b gs ≡ (b ∷ f) ∷ fs
first_more b f fs gs e = rw e

pub lines_next : (b : ℕ) (s : List ℕ) → lines_of (b ∷ s) ≡ take (feed_at (b ∷ s)) (b ∷ s) ∷ lines_of (drop (suc (feed_at (b ∷ s))) (b ∷ s))
lines_next b [] =
    elim (either (eqb b 10)) [
      | inl t ↦ rw t
      | inr t ↦ rw t
    ]
lines_next b (a ∷ s) =
    elim (either (eqb b 10)) [
      | inl t ↦ rw t
      | inr t ↦ rw t (first_more b _ _ (lines_of (a ∷ s)) (lines_next a s))
    ]

-- The lines from i on are the line at i and those behind its end.
pub lines_at : (t : List ℕ) (i k : ℕ) → i < length t → k ≡ feed_at (drop i t) → lines_of (drop i t) ≡ take k (drop i t) ∷ lines_of (drop (i + k + 1) t)
lines_at t i k h e =
    let n : i + k + 1 ≡ i + suc k = omega arith in
    let d : drop i t ≡ get_or t i 0 ∷ drop (i + 1) t = next t i h in
    let q : drop (suc k) (drop i t) ≡ drop (i + suc k) t = drop-drop (suc k) i t in
    rw (n, ← q, e) (subst (λ (u : List ℕ). lines_of u ≡ take (feed_at u) u ∷ lines_of (drop (suc (feed_at u)) u)) (sym d) (lines_next (get_or t i 0) (drop (i + 1) t)))
