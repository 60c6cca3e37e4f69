-- A stored key and a key by their first eight bytes.
use Prim.Native.Nat.{ℕ, zero, suc, ◌+◌, ◌-◌, ◌*◌, ◌^◌, ◌≤◌}
use mathlib.Core.Path.{◌≡◌, refl, sym, ap, ◌∙◌}
use mathlib.Core.Bool.{true}
use mathlib.Core.List.{List, [], ◌∷◌, ◌++◌}
use native.Mathlib.Omega.{arith}
use lib.ListN.{length, take, drop, replicate}
use lib.Seq.{drop-drop}
use Rattle.buffers.specs.Writes.{Wrote}
use Rattle.buffers.proofs.Lists.{drop_take}
use Rattle.blocks.specs.Blocks.{block_of, key_in, is_block}
use Rattle.blocks.proofs.Blocks.{block_path}
use Rattle.table.specs.Places.{key_at}
use Rattle.search.specs.Keys.{rank}

zeros_rank : (k m c : ℕ) → rank k (drop m (replicate c 0)) ≡ 0
unfolding rank
zeros_rank zero m c = refl
zeros_rank (suc k) zero zero = refl
zeros_rank (suc k) (suc m) zero = refl
zeros_rank (suc k) zero (suc c) = omega (arith, zeros_rank k zero c)
zeros_rank (suc k) (suc m) (suc c) = zeros_rank (suc k) m c

rank_padded : (k : ℕ) (s : List ℕ) (m c : ℕ) → rank k (s ++ drop m (replicate c 0)) ≡ rank k s
unfolding rank
rank_padded zero s m c = refl
rank_padded (suc k) [] m c = zeros_rank (suc k) m c
rank_padded (suc k) (x ∷ s) m c = ap (λ (r : ℕ). x * 256 ^ k + r) (rank_padded k s m c)

-- Eight zeros with a key written over them spell what the key's first eight bytes do.
pub first_padded : (s eight : List ℕ) (e r : ℕ) → Wrote (replicate 8 0) 0 s (length s) eight e → r ≡ rank 8 (drop 0 eight) → r ≡ rank 8 s
first_padded s eight e r w q = q ∙ ap (rank 8) w.holds ∙ rank_padded 8 s (0 + length s) 8

pub rank_take : (k n : ℕ) (s : List ℕ) → k ≤ n → rank k (take n s) ≡ rank k s
unfolding rank
rank_take zero n s h = refl
rank_take (suc k) zero s h = absurd (omega arith)
rank_take (suc k) (suc n) [] h = refl
rank_take (suc k) (suc n) (x ∷ s) h = ap (λ (r : ℕ). x * 256 ^ k + r) (rank_take k n s (omega arith))

-- Behind a block's key stand zeros, so that its bytes have the key's rank.
pub block_rank : (b : List ℕ) → is_block b ≡ true → rank 8 (drop 1 b) ≡ rank 8 (key_in b)
unfolding block_of
block_rank b e =
    let k = key_in b in
    let z : take 63 k ++ replicate (63 - length (take 63 k)) 0 ≡ take 63 k ++ drop 0 (replicate (63 - length (take 63 k)) 0) = refl in
    ap (λ (l : List ℕ). rank 8 (drop 1 l)) (block_path b e) ∙ ap (rank 8) z ∙ rank_padded 8 (take 63 k) 0 (63 - length (take 63 k)) ∙ rank_take 8 63 k (omega arith)

pub key_rank : (b : List ℕ) (i : ℕ) → is_block (take 64 (drop (64 * i) b)) ≡ true → rank 8 (drop (64 * i + 1) b) ≡ rank 8 (key_at b i)
key_rank b i e =
    ap (rank 8) (sym (drop-drop 1 (64 * i) b)) ∙ sym (rank_take 8 63 (drop 1 (drop (64 * i) b)) (omega arith))
    ∙ ap (rank 8) (sym (drop_take 1 64 (drop (64 * i) b))) ∙ block_rank (take 64 (drop (64 * i) b)) e

pub ruleset first_cases = (first_padded)
