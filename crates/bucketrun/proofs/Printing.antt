-- Laws of what a line prints: its answer where it stands, or its refusal.
use Prim.Native.Nat.{ℕ, ◌+◌, ◌≤◌}
use mathlib.Core.Path.{◌≡◌, refl, sym, ◌∙◌, ap}
use mathlib.Core.List.{List, [], ◌∷◌, ◌++◌}
use native.Mathlib.Omega.{arith}
use lib.ListN.{length, take, drop, length-append, length-drop}
use lib.Seq.{length-take-le, take_at}
use borrow.Author.Tests.{eq-eqb}
use Rattle.buffers.specs.Texts.{bytes}
use Rattle.buffers.specs.Writes.{Wrote}
use Rattle.buffers.proofs.Parts.{placed_same}
use Rattle.buffers.proofs.Writes.{wrote_both}
use Rattle.text.specs.Printing.{digits}
use Rattle.outcome.specs.Printed.{refusal_text, printed}

-- Up to the place after it stands what was written, behind what stood before it.
pub wrote_front : (out : List ℕ) (at : ℕ) (vs : List ℕ) (k : ℕ) (exit : List ℕ) (r : ℕ) → at ≤ length out → Wrote out at vs k exit r → take r exit ≡ take at out ++ vs
wrote_front out at vs k exit r h w =
    let t = length-take-le at out h in
    ap (take r) w.holds ∙ take_at (take at out ++ vs) (drop (at + length vs) out) r (rw length-append (omega (arith, w.next)))

pub prints_answer : (out : List ℕ) (at number len : ℕ) → at + 65536 ≤ length out → len ≤ 65536 → number ≡ 0 → Wrote out at (printed number (take len (drop at out))) 65536 out (at + len)
prints_answer out at number len h l e =
    let n : length (take len (drop at out)) ≡ len = length-take-le len (drop at out) (rw length-drop (omega arith)) in
    rw (eq-eqb number 0 e) (record { next = ap (λ (x : ℕ). at + x) (sym n); holds = placed_same out at len (omega arith); long = refl; most = omega arith })

pub prints_refusal : (out : List ℕ) (at number code : ℕ) (m : List ℕ) (i : ℕ) (m' : List ℕ) (j : ℕ) (exit : List ℕ) (r : ℕ) → at + 65536 ≤ length out
    → Wrote out at (bytes "no" ++ (9 ∷ [])) 3 m i → Wrote m i (digits code) 20 m' j → Wrote m' j (10 ∷ []) 1 exit r → code ≡ number → Wrote out at (refusal_text number) 65536 exit r
prints_refusal out at number code m i m' j exit r h x y z e =
    let w : Wrote out at (refusal_text code) 24 exit r =
    wrote_both out at (bytes "no" ++ (9 ∷ [])) 3 m i (digits code ++ (10 ∷ [])) 21 exit r (omega arith) x
    (wrote_both m i (digits code) 20 m' j (10 ∷ []) 1 exit r (omega (arith, x.long, x.most)) y z) in
    rw (← e) (record { next = w.next; holds = w.holds; long = w.long; most = omega (arith, w.most) })
