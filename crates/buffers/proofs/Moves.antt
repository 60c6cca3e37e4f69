-- Laws of moves within a list's own length.
use Prim.Native.Nat.{ℕ, ◌+◌, ◌-◌, ◌≤◌}
use mathlib.Core.Path.{◌≡◌, ap, ◌∙◌}
use mathlib.Core.List.{List, [], ◌++◌, append-nil}
use native.Mathlib.Omega.{arith}
use native.Mathlib.Nat.{le_of_eq}
use lib.ListN.{length, take, drop, replicate, length-append, length-take, length-drop, length-replicate, drop_of_length-le}
use lib.Seq.{paste, take_all, take_at}
use Rattle.buffers.specs.Moves.{moved_up, moved_down}
use Rattle.buffers.specs.Writes.{Wrote}

module _ {A : Type 0} where
  pub length_up : (by : ℕ) (l : List A) → by ≤ length l → length (moved_up by l) ≡ length l
  unfolding moved_up
  length_up by l h = simp (length-append, length-take) (omega arith)

  pub length_down : (by : ℕ) (x : A) (l : List A) → by ≤ length l → length (moved_down by x l) ≡ length l
  unfolding moved_down
  length_down by x l h = simp (length-append, length-drop, length-replicate) (omega arith)

  -- A copy from the start to `by`.
  pub up_is : (by : ℕ) (l r : List A) → r ≡ paste l by l (length l - by) → by ≤ length l → r ≡ moved_up by l
  unfolding moved_up
  up_is by l r e h =
      let d : drop (by + (length l - by)) l ≡ [] = drop_of_length-le l (omega arith) in
      e ∙ rw (d, append-nil)

  -- A copy from `by` to the start, and x behind it.
  pub down_is : (by : ℕ) (x : A) (l s r : List A) (k q : ℕ) → s ≡ paste l 0 (drop by l) (length l - by) → by ≤ length l
      → Wrote s (length l - by) (replicate by x) k r q → r ≡ moved_down by x l
  unfolding moved_down
  down_is by x l s r k q e h w =
      let n : length (drop by l) ≡ length l - by = length-drop by l in
      let f : s ≡ drop by l ++ drop (length l - by) l =
      let z : 0 + (length l - by) ≡ length l - by = omega arith in e ∙ rw z (ap (λ (t : List A). t ++ drop (length l - by) l) (take_all (length l - by) (drop by l) (le_of_eq n))) in
      let t : take (length l - by) s ≡ drop by l = rw f (take_at (drop by l) (drop (length l - by) l) (length l - by) n) in
      let m : length s ≤ length l - by + length (replicate by x) = rw f (simp (length-append, length-drop, length-replicate) (omega arith)) in
      let d : drop (length l - by + length (replicate by x)) s ≡ [] = drop_of_length-le s m in
      w.holds ∙ rw (t, d, append-nil)
