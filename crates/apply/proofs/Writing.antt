-- Laws of a row read into arrays and written again.
use Prim.Native.Nat.{ℕ, ◌+◌, ◌-◌, ◌*◌, ◌≤◌}
use Rattle.std.specs.List.{copy_within}
use Rattle.buffers.specs.Writes.{placed}
use mathlib.Core.Path.{◌≡◌, refl, ap, ◌∙◌}
use mathlib.Core.List.{List, ◌++◌}
use native.Mathlib.Omega.{arith}
use lib.ListN.{length, take, drop, length-drop}
use Rattle.std.proofs.Common.{length-take-le}
use Rattle.buffers.proofs.Writes.{placed_twice}
use Rattle.buffers.proofs.Parts.{placed_same}
use Rattle.apply.specs.Passes.{InBuffers, Put}

-- What is written is what was read.
pub put_as : (at : ℕ) (x y xs ys n b n' b' : List ℕ) → Put at x y n b n' b' → x ≡ xs → y ≡ ys → Put at xs ys n b n' b'
put_as at x y xs ys n b n' b' p e f = record { numbers_are = p.numbers_are ∙ rw e; keys_are = p.keys_are ∙ rw f }

pub put_same : (from to : ℕ) (n b : List ℕ) → from ≡ to → InBuffers from n b → Put to (take 8 (drop (8 * from) n)) (take 64 (drop (64 * from) b)) n b n b
put_same from to n b e p =
    rw (← e) (record { numbers_are = placed_same n (8 * from) 8 p.numbers; keys_are = placed_same b (64 * from) 64 p.block })

-- What is copied within a buffer is what stood where it came from.
copied : (l r : List ℕ) (i to k : ℕ) → r ≡ copy_within l i (i + k) to → i + k ≤ length l → r ≡ placed l to (take k (drop i l))
copied l r i to k e h =
    let m : i + k - i ≡ k = omega arith in
    let n : length (take k (drop i l)) ≡ k = length-take-le k (drop i l) (rw (length-drop i l) (omega arith)) in
    e ∙ rw (m, n)

pub put_copied : (from to : ℕ) (n b n' b' : List ℕ) → n' ≡ copy_within n (8 * from) (8 * from + 8) (8 * to) → b' ≡ copy_within b (64 * from) (64 * from + 64) (64 * to) → InBuffers from n b
    → Put to (take 8 (drop (8 * from) n)) (take 64 (drop (64 * from) b)) n b n' b'
put_copied from to n b n' b' e f p = record { numbers_are = copied n n' (8 * from) (8 * to) 8 e p.numbers; keys_are = copied b b' (64 * from) (64 * to) 64 f p.block }

pub ruleset put_cases = (refl, put_as, put_same, put_copied)

-- Two rows, the second behind the first, are one piece.
pub put_twice : (at : ℕ) (x y x₂ y₂ n b n₁ b₁ n₂ b₂ : List ℕ) → Put at x y n b n₁ b₁ → Put (at + 1) x₂ y₂ n₁ b₁ n₂ b₂
    → length x ≡ 8 → length y ≡ 64 → InBuffers (at + 1) n b → Put at (x ++ x₂) (y ++ y₂) n b n₂ b₂
put_twice at x y x₂ y₂ n b n₁ b₁ n₂ b₂ p q lx ly s =
    let e : 8 * (at + 1) ≡ 8 * at + length x = omega arith in
    let f : 64 * (at + 1) ≡ 64 * at + length y = omega arith in
    record {
      numbers_are = q.numbers_are ∙ rw (p.numbers_are, e) (placed_twice n (8 * at) x x₂ (omega (arith, s.numbers)));
      keys_are = q.keys_are ∙ rw (p.keys_are, f) (placed_twice b (64 * at) y y₂ (omega (arith, s.block)));
    }
