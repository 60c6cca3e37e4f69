-- A buffer in pieces: what a move or a write in one piece leaves of it.
use Prim.Native.Nat.{ℕ, ◌+◌, ◌-◌}
use mathlib.Core.Path.{◌≡◌, sym, ap, ◌∙◌}
use mathlib.Core.List.{List, ◌++◌, append_assoc}
use native.Mathlib.Omega.{arith}
use lib.ListN.{length, take, drop, replicate, length-append}
use lib.Seq.{take_at, drop_at, drop-drop}
use Rattle.buffers.specs.Moves.{moved_up, moved_down}
use Rattle.buffers.specs.Writes.{placed}
use Rattle.buffers.proofs.Moves.{length_up, length_down}
use Rattle.buffers.proofs.Parts.{middle}
use Rattle.table.specs.Moves.{between}

-- another piece of the same length in its place
pub replaced : (a p q r : List ℕ) (i : ℕ) → length a ≡ i → length q ≡ length p → placed (a ++ (p ++ r)) i q ≡ a ++ (q ++ r)
replaced a p q r i h g =
    let d : drop (i + length q) (a ++ (p ++ r)) ≡ r =
    sym (drop-drop (length q) i (a ++ (p ++ r))) ∙ ap (drop (length q)) (drop_at a (p ++ r) i h) ∙ drop_at p r (length q) (sym g) in
    rw (take_at a (p ++ r) i h, d) (append_assoc a q r)

changed : (f : List ℕ → List ℕ) (a p q r : List ℕ) (i e : ℕ) → length a ≡ i → i + length p ≡ e → f p ≡ q → length q ≡ length p → between i e f (a ++ (p ++ r)) ≡ a ++ (q ++ r)
changed f a p q r i e h g m l =
    ap (λ (x : List ℕ). placed (a ++ (p ++ r)) i (f x)) (middle a p r i (e - i) h (omega arith)) ∙ ap (λ (x : List ℕ). placed (a ++ (p ++ r)) i x) m ∙ replaced a p q r i h l

module _ (k : ℕ) (a r : List ℕ) (i e : ℕ) (h : length a ≡ i) where
  -- moved up over a last piece of k elements
  up : (p z : List ℕ) → length z ≡ k → moved_up k (p ++ z) ≡ take k (p ++ z) ++ p
  unfolding moved_up
  up p z l = ap (λ (x : List ℕ). take k (p ++ z) ++ x) (take_at p z (length (p ++ z) - k) (let n = length-append p z in omega arith))

  pub moved_up_lem : (p z : List ℕ) → length z ≡ k → i + length (p ++ z) ≡ e → between i e (moved_up k) (a ++ ((p ++ z) ++ r)) ≡ a ++ (take k (p ++ z) ++ (p ++ r))
  moved_up_lem p z l g =
      let n = length-append p z in
      changed (moved_up k) a (p ++ z) (take k (p ++ z) ++ p) r i e h g (up p z l) (ap length (sym (up p z l)) ∙ length_up k (p ++ z) (omega arith))
      ∙ ap (λ (x : List ℕ). a ++ x) (append_assoc (take k (p ++ z)) p r)

  -- moved down over a first piece of k elements
  down : (y p : List ℕ) → length y ≡ k → moved_down k 0 (y ++ p) ≡ p ++ replicate k 0
  unfolding moved_down
  down y p l = ap (λ (x : List ℕ). x ++ replicate k 0) (drop_at y p k l)

  pub moved_down_lem : (y p : List ℕ) → length y ≡ k → i + length (y ++ p) ≡ e → between i e (moved_down k 0) (a ++ ((y ++ p) ++ r)) ≡ a ++ (p ++ (replicate k 0 ++ r))
  moved_down_lem y p l g =
      let n = length-append y p in
      changed (moved_down k 0) a (y ++ p) (p ++ replicate k 0) r i e h g (down y p l) (ap length (sym (down y p l)) ∙ length_down k 0 (y ++ p) (omega arith))
      ∙ ap (λ (x : List ℕ). a ++ x) (append_assoc p (replicate k 0) r)
