-- Laws of the lines that a line feed ends, and of the line that has begun behind them.
use Prim.Native.Nat.{ℕ, zero, suc, ◌+◌, ◌≤◌, ◌<◌}
use mathlib.Core.Path.{◌≡◌, refl, sym, ◌∙◌, ap}
use mathlib.Core.Logic.{inl, inr}
use mathlib.Core.Bool.{Bool, true, false, ◌||◌, or_assoc}
use mathlib.Core.List.{List, [], ◌∷◌, ◌++◌, append-nil}
use native.Mathlib.Omega.{arith}
use lib.Dec.{eqb}
use lib.ListN.{length, take, drop, length-append}
use lib.Seq.{take-length, take-append-add, drop-append-add}
use Rattle.buffers.proofs.Tests.{either, clash, or_l, or_r, or_none}
use Rattle.text.specs.Fields.{on_first}
use Rattle.text.specs.Lines.{lines_of, feed_at}
use Rattle.text.specs.Keys.{contains}
use Rattle.text.proofs.Lines.{feed_clear, lines_next, lines_at}
use Rattle.bucketrun.specs.Program.{ended_length, ended_lines, feed_ended}

-- ## Texts without a line feed

pub none_feed : (s : List ℕ) → feed_at s ≡ length s → contains s 10 ≡ false
none_feed [] e = refl
none_feed (b ∷ s) e =
    elim (either (eqb b 10)) [
      | inl t ↦ let z : 0 ≡ suc (length s) = rw t at e in absurd (omega arith)
      | inr t ↦ let z : suc (feed_at s) ≡ suc (length s) = rw t at e in rw t (none_feed s (omega arith))
    ]

pub none_take : (n : ℕ) (s : List ℕ) → contains s 10 ≡ false → contains (take n s) 10 ≡ false
none_take zero s e = refl
none_take (suc n) [] e = refl
none_take (suc n) (b ∷ s) e = let p = or_none (eqb b 10) (contains s 10) e in rw p.0 (none_take n s p.1)

pub none_end : (s : List ℕ) → contains s 10 ≡ false → ended_length s ≡ 0
none_end [] e = refl
none_end (b ∷ s) e = rw e

some_append : (s u : List ℕ) → contains (s ++ u) 10 ≡ (contains s 10 || contains u 10)
some_append [] u = refl
some_append (b ∷ s) u = ap (λ (t : Bool). eqb b 10 || t) (some_append s u) ∙ sym (or_assoc (eqb b 10) (contains s 10) (contains u 10))

-- ## The last line feed

-- Where it ends the text, that has one.
some_ended : (b : ℕ) (s : List ℕ) (k : ℕ) → ended_length (b ∷ s) ≡ suc k → (contains (b ∷ s) 10 ≡ true) × (ended_length s ≡ k)
some_ended b s k e =
    elim (either (contains (b ∷ s) 10)) [
      | inl t ↦ (t, let z : suc (ended_length s) ≡ suc k = rw t at e in omega arith)
      | inr t ↦ let z : 0 ≡ suc k = rw t at e in absurd (omega arith)
    ]

pub end_most : (s : List ℕ) → ended_length s ≤ length s
end_most [] = omega arith
end_most (b ∷ s) =
    elim (either (contains (b ∷ s) 10)) [
      | inl t ↦ let x = end_most s in rw t (omega arith)
      | inr t ↦ rw t (omega arith)
    ]

pub rest_none : (s : List ℕ) → contains (drop (ended_length s) s) 10 ≡ false
rest_none [] = refl
rest_none (b ∷ s) =
    elim (either (contains (b ∷ s) 10)) [
      | inl t ↦ rw t (rest_none s)
      | inr t ↦ simp t
    ]

some_cut : (s : List ℕ) → contains s 10 ≡ true → contains (take (ended_length s) s) 10 ≡ true
some_cut [] e = e
some_cut (b ∷ s) e =
    elim (either (eqb b 10)) [
      | inl t ↦ rw (e, t)
      | inr t ↦ rw (e, t) (some_cut s (rw t at e))
    ]

cut_long : (b : ℕ) (s : List ℕ) → contains (b ∷ s) 10 ≡ true → take (ended_length (b ∷ s)) (b ∷ s) ≡ b ∷ take (ended_length s) s
cut_long b s e = rw e

pub end_cut : (s : List ℕ) → ended_length (take (ended_length s) s) ≡ ended_length s
end_cut [] = refl
end_cut (b ∷ s) =
    elim (either (contains (b ∷ s) 10)) [
      | inl t ↦
          let x : contains (b ∷ take (ended_length s) s) 10 ≡ true = rw t at (some_cut (b ∷ s) t) in
          ap ended_length (cut_long b s t) ∙ rw (x, t) (ap suc (end_cut s))
      | inr t ↦ simp t
    ]

-- ## A text that ends in a line feed, and what stands behind it

first_append : (b : ℕ) (f : List ℕ) (fs gs hs : List (List ℕ)) → gs ≡ f ∷ fs → on_first b (gs ++ hs) ≡ on_first b gs ++ hs
first_append b f fs gs hs e = rw e

pub lines_append : (s u : List ℕ) → ended_length s ≡ length s → lines_of (s ++ u) ≡ lines_of s ++ lines_of u
lines_append [] u e = refl
lines_append (b ∷ []) u e =
    let p = some_ended b [] 0 e in
    elim (either (eqb b 10)) [
      | inl t ↦ rw t
      | inr t ↦ absurd (clash (eqb b 10 || false) p.0 (rw t))
    ]
lines_append (b ∷ c ∷ s) u e =
    let p = some_ended b (c ∷ s) (suc (length s)) e in
    let x = lines_append (c ∷ s) u p.1 in
    elim (either (eqb b 10)) [
      | inl t ↦ rw t (ap (λ (ls : List (List ℕ)). [] ∷ ls) x)
      | inr t ↦ rw t (ap (on_first b) x ∙ first_append b _ _ (lines_of (c ∷ s)) (lines_of u) (lines_next c s))
    ]

pub end_append : (s u : List ℕ) → ended_length s ≡ length s → ended_length (s ++ u) ≡ length s + ended_length u
end_append [] u e = omega arith
end_append (b ∷ s) u e =
    let p = some_ended b s (length s) e in
    let x = end_append s u p.1 in
    rw (some_append (b ∷ s) u ∙ or_l (contains (b ∷ s) 10) (contains u 10) p.0) (omega arith)

-- ## The first line that ends

some_end : (s : List ℕ) (k : ℕ) → ended_length s ≡ suc k → contains s 10 ≡ true
some_end [] k e = absurd (omega arith)
some_end (b ∷ s) k e = (some_ended b s k e).0

pub end_first : (s : List ℕ) → feed_at s < length s → ended_length (take (suc (feed_at s)) s) ≡ suc (feed_at s)
end_first [] h = absurd (omega arith)
end_first (b ∷ s) h =
    elim (either (eqb b 10)) [
      | inl t ↦ simp t
      | inr t ↦
          let l : suc (feed_at s) < suc (length s) = rw t at h in
          let x = end_first s (omega arith) in
          simp (t, some_end (take (suc (feed_at s)) s) (feed_at s) x) (ap suc x)
    ]

pub lines_first : (s : List ℕ) → feed_at s < length s → lines_of (take (suc (feed_at s)) s) ≡ take (feed_at s) s ∷ []
lines_first [] h = absurd (omega arith)
lines_first (b ∷ s) h =
    elim (either (eqb b 10)) [
      | inl t ↦ simp t
      | inr t ↦
          let l : suc (feed_at s) < suc (length s) = rw t at h in
          simp t (ap (on_first b) (lines_first s (omega arith)))
    ]

-- ## The line that has begun

-- What comes behind it is joined to it.
pub lines_begun : (s u : List ℕ) → contains s 10 ≡ false → 0 < length s → lines_of (s ++ u) ≡ (s ++ take (feed_at u) u) ∷ lines_of (drop (suc (feed_at u)) u)
lines_begun s u e h =
    let q : 0 + (length s + feed_at u) + 1 ≡ length s + suc (feed_at u) = omega arith in
    lines_at (s ++ u) 0 (length s + feed_at u) (rw length-append (omega arith)) (sym (feed_clear s u e)) ∙ rw (q, take-append-add s u, drop-append-add s u)

end_last : (s : List ℕ) → ended_length (s ++ 10 ∷ []) ≡ length (s ++ 10 ∷ [])
end_last [] = refl
end_last (b ∷ s) = rw (some_append (b ∷ s) (10 ∷ []) ∙ or_r (contains (b ∷ s) 10) true refl) (ap suc (end_last s))

-- A line feed ends it.
line_last : (s : List ℕ) → contains s 10 ≡ false → 0 < length s → lines_of (s ++ 10 ∷ []) ≡ lines_of s
line_last s e h = lines_begun s (10 ∷ []) e h ∙ sym (lines_begun s [] e h) ∙ ap lines_of (append-nil s)

pub closed_lines : (s : List ℕ) → contains s 10 ≡ false → ended_lines (feed_ended s) ≡ lines_of s
closed_lines [] e = refl
closed_lines (b ∷ s) e =
    ap (λ (k : ℕ). lines_of (take k (b ∷ s ++ 10 ∷ []))) (end_last (b ∷ s))
    ∙ ap lines_of (take-length (b ∷ s ++ 10 ∷ []))
    ∙ line_last (b ∷ s) e (omega arith)
