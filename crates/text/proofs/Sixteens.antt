-- Laws of blocks of 16 bytes: how long they are, and that each byte of a text passes a test where each block does.
use Prim.Native.Nat.{ℕ, ◌+◌, ◌-◌, ◌≤◌, ◌<◌}
use mathlib.Core.Path.{◌≡◌, sym, ap, ◌∙◌}
use mathlib.Core.Logic.{inl, inr}
use mathlib.Core.Bool.{Bool, true, false, false≢true}
use mathlib.Core.List.{List}
use native.Mathlib.Omega.{arith}
use lib.ListN.{length, take, drop, length-drop, take-append-drop}
use lib.Seq.{drop-drop, length-take-le}
use Rattle.buffers.specs.Lists.{all}
use Rattle.buffers.proofs.Lists.{all_take, all_drop, all_append}
use Rattle.buffers.proofs.Tests.{either}
use Rattle.buffers.proofs.Parts.{part_cut, rest_all}

-- ## Their length

module _ (s : List ℕ) where
  pub block_long : (i : ℕ) → 16 ≤ length s - i → length (take (i + 16 - i) (drop i s)) ≡ 16
  block_long i h =
      let d = length-drop i s in
      rw (part_cut s i 16) (length-take-le 16 (drop i s) (omega arith))

  pub piece_long : (i : ℕ) → i < length s - 16 → length (take (i + 16 - i) (drop i s)) ≡ 16
  piece_long i h = block_long i (omega arith)

  -- The last 16 bytes.
  pub last_long : 16 ≤ length s → length (take (length s - (length s - 16)) (drop (length s - 16) s)) ≡ 16
  last_long h = rw (rest_all (length s - 16) s, length-drop (length s - 16) s) (omega arith)

module _ (p : ℕ → Bool) (s : List ℕ) where
  -- ## The blocks of a text

  not_all : (t : List ℕ) → (all p s ≡ true → all p t ≡ true) → all p t ≡ false → false ≡ all p s
  not_all t f e =
      elim (either (all p s)) [
        | inl a ↦ absurd (false≢true (sym e ∙ f a))
        | inr a ↦ sym a
      ]

  module _ (i : ℕ) (q : all p s ≡ all p (drop i s)) (r : Bool) where
    pub piece_bad : r ≡ all p (take (i + 16 - i) (drop i s)) → r ≡ false → false ≡ all p s
    piece_bad e t = not_all (take (i + 16 - i) (drop i s)) (λ a. all_take p (i + 16 - i) (drop i s) (all_drop p i s a)) (sym e ∙ t)

    pub piece_step : r ≡ all p (take (i + 16 - i) (drop i s)) → r ≡ true → all p s ≡ all p (drop (i + 16) s)
    piece_step e t =
        let c : all p (take 16 (drop i s)) ≡ true = rw (part_cut s i 16) at (sym e ∙ t) in
        elim (either (all p (drop (i + 16) s))) [
          | inl a ↦ q ∙ ap (all p) (sym (take-append-drop 16 (drop i s))) ∙ all_append p (take 16 (drop i s)) _ c (rw (drop-drop 16 i s) a) ∙ sym a
          | inr a ↦ sym (not_all (drop (i + 16) s) (all_drop p (i + 16) s) a) ∙ sym a
        ]

    pub piece_last : r ≡ all p (take (length s - (length s - 16)) (drop (length s - 16) s)) → length s - 16 ≤ i → r ≡ all p s
    piece_last e h =
        let d : length s - 16 + (i - (length s - 16)) ≡ i = omega arith in
        let f : r ≡ all p (drop (length s - 16) s) = rw (rest_all (length s - 16) s) at e in
        elim (either (all p (drop (length s - 16) s))) [
          | inl a ↦
              let b = all_drop p (i - (length s - 16)) (drop (length s - 16) s) a in
              f ∙ a ∙ sym (q ∙ (rw (drop-drop (i - (length s - 16)) (length s - 16) s, d) at b))
          | inr a ↦ f ∙ a ∙ not_all (drop (length s - 16) s) (all_drop p (length s - 16) s) a
        ]

pub ruleset piece_cases = (piece_long, last_long, piece_bad, piece_step, piece_last)
