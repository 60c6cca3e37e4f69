-- Laws of a key in 64 bytes: its length, the way back, and the writing of it.
use Prim.Native.Nat.{ℕ, suc, ◌+◌, ◌-◌, ◌≤◌}
use mathlib.Core.Path.{◌≡◌, refl, sym, ap, ◌∙◌}
use mathlib.Core.Bool.{true}
use mathlib.Core.List.{List, [], ◌∷◌, ◌++◌}
use native.Mathlib.Omega.{arith}
use lib.ListN.{length, get_or, take, drop, replicate, length-append, length-take, length-replicate}
use lib.Seq.{take_all, take_at}
use Rattle.buffers.specs.Writes.{Wrote}
use Rattle.buffers.proofs.Lists.{same_refl, same_path}
use Rattle.buffers.proofs.Writes.{wrote_both, wrote_as}
use Rattle.blocks.specs.Blocks.{block_of, key_in, is_block}

-- A block has 64 bytes.
pub block_length : (k : List ℕ) → length (block_of k) ≡ 64
unfolding block_of
block_length k =
    let t = length-take 63 k in
    let r = length-replicate {A = ℕ} (63 - length (take 63 k)) 0 in
    ap suc (length-append (take 63 k) (replicate (63 - length (take 63 k)) 0)) ∙ omega arith

-- The block of a key that fits.
pub block_is : (k : List ℕ) → length k ≤ 63 → block_of k ≡ length k ∷ k ++ replicate (63 - length k) 0
unfolding block_of
block_is k h = rw (take_all 63 k h)

-- The key comes back out of its block.
pub key_back : (k : List ℕ) → length k ≤ 63 → key_in (block_of k) ≡ k
key_back k h = rw (block_is k h) (take_at k (replicate (63 - length k) 0) (length k) refl)

-- The first byte is the key's length.
pub block_first : (k : List ℕ) → length k ≤ 63 → get_or (block_of k) 0 0 ≡ length k
block_first k h = rw (block_is k h)

-- What is written for a key that fits is a block.
pub block_block : (k : List ℕ) → length k ≤ 63 → is_block (block_of k) ≡ true
unfolding is_block
block_block k h = rw (key_back k h) (same_refl (block_of k))

-- ## A block as it stands in a buffer

pub block_path : (b : List ℕ) → is_block b ≡ true → b ≡ block_of (key_in b)
unfolding is_block
block_path b e = same_path b (block_of (key_in b)) e

pub block_long : (b : List ℕ) → is_block b ≡ true → length b ≡ 64
block_long b e = ap length (block_path b e) ∙ block_length (key_in b)

-- Its first byte is a length that fits.
pub block_short : (b : List ℕ) → is_block b ≡ true → get_or b 0 0 ≤ 63
unfolding block_of
block_short b e =
    let f : get_or b 0 0 ≡ length (take 63 (key_in b)) = ap (λ (l : List ℕ). get_or l 0 0) (block_path b e) in
    omega (arith, length-take 63 (key_in b))

-- ## A key cut out, and written

-- The length, the key, zeros.
pub block_written : (out : List ℕ) (a : ℕ) (k : List ℕ) (m n exit : List ℕ) (r s q : ℕ) → a + 64 ≤ length out → length k ≤ 63
    → Wrote out a (length k ∷ []) 1 m r → Wrote m r k (length k) n s → Wrote n s (replicate (63 - length k) 0) (63 - length k) exit q → Wrote out a (block_of k) 64 exit q
block_written out a k m n exit r s q h l x y z =
    wrote_as out a ((length k ∷ []) ++ k ++ replicate (63 - length k) 0) (block_of k) _ 64 exit q
    (wrote_both out a ((length k ∷ []) ++ k) _ n s (replicate (63 - length k) 0) _ exit q (omega arith)
    (wrote_both out a (length k ∷ []) _ m r k _ n s (omega arith) x y) z)
    (sym (block_is k l)) (rw block_length (omega arith))
