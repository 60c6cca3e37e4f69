-- The rows that two buffers hold, and what those rows are written as.
use Prim.Native.Nat.{ℕ, zero, suc, ◌*◌, ◌-◌, ◌≤◌, ◌<◌}
use mathlib.Core.Path.{◌≡◌, refl, sym, ap, ap₂, ◌∙◌}
use mathlib.Core.Bool.{Bool, true}
use mathlib.Core.List.{List, [], ◌∷◌, ◌++◌}
use native.Mathlib.Omega.{arith}
use native.Mathlib.Nat.{mul-zero, mul-suc, add_comm}
use lib.Dec.{eqb}
use lib.ListN.{length, take, drop, replicate, length-drop, take-append-drop, replicate-append-replicate}
use lib.Seq.{drop-drop, drop-length}
use borrow.Author.Tests.{eqb-true}
use Rattle.buffers.specs.Lists.{all}
use Rattle.buffers.proofs.Tests.{and_i, and_l, and_r}
use Rattle.buffers.proofs.Lists.{all_as, same_path}
use Rattle.blocks.specs.Blocks.{block_of, key_in, is_block}
use Rattle.model.specs.Rows.{Row, ahead, ordered}
use Rattle.model.proofs.Order.{ahead_trans}
use Rattle.table.specs.Layout.{numbers_of_row, numbers_of, keys_of, row_in, row_at, rows_of}
use Rattle.table.proofs.Laying.{Laying, lay_rest}
use Rattle.table.proofs.Held.{numbers_laying, keys_laying}
use Rattle.search.proofs.Positions.{all_row, rows_row}
use Rattle.bucket.specs.Steps.{zeros, block_at}

-- ## Zeros

zeros_are : (l : List ℕ) → zeros l ≡ true → l ≡ replicate (length l) 0
zeros_are [] e = refl
zeros_are (x ∷ l) e = ap₂ (λ (a : ℕ) (m : List ℕ). a ∷ m) (eqb-true x 0 (and_l _ _ e)) (zeros_are l (and_r (eqb x 0) _ e))

zeros_all : (k : ℕ) → zeros (replicate k 0) ≡ true
zeros_all zero = refl
zeros_all (suc k) = zeros_all k

-- The rows after the used ones are zero.
module _ {part : Row → List ℕ} {k : ℕ} {lay : ℕ → List Row → List ℕ} (l : Laying part k lay) where
  pub lay_free : (c : ℕ) → lay c [] ≡ replicate (k * c) 0
  lay_free zero = rw (mul-zero k) (l.none [])
  lay_free (suc c) = rw (l.free c, lay_free c, mul-suc, add_comm (k * c) k) (replicate-append-replicate k (k * c) 0)

  pub rest_free : (c : ℕ) (xs : List Row) → length xs ≤ c → zeros (drop (k * length xs) (lay c xs)) ≡ true
  rest_free c xs h = rw (lay_rest l (length xs) c xs (omega arith) h, drop-length xs, lay_free (c - length xs)) (zeros_all (k * (c - length xs)))

-- ## Positions

-- Dropping once more.
drop_next : (k i : ℕ) (l : List ℕ) → drop (k * suc i) l ≡ drop (k * i) (drop k l)
drop_next k i l = rw (mul-suc, add_comm (k * i) k) (sym (drop-drop (k * i) k l))

row_next : (n b : List ℕ) (i : ℕ) → row_at n b (suc i) ≡ row_at (drop 8 n) (drop 64 b) i
row_next n b i = rw (drop_next 8 i n, drop_next 64 i b)

-- A test of every row is a test of every position.
pub rows_all : (p : Row → Bool) (n b : List ℕ) (u : ℕ) → ((i : ℕ) → i < u → p (row_at n b i) ≡ true) → all p (rows_of n b u) ≡ true
rows_all p n b zero f = refl
rows_all p n b (suc u) f =
    and_i (p (row_at n b 0)) _ (f 0 (omega arith)) (rows_all p (drop 8 n) (drop 64 b) u (λ i h. ap p (sym (row_next n b i)) ∙ f (suc i) (omega arith)))

pub all_rows : (p : Row → Bool) (n b : List ℕ) (u i : ℕ) → all p (rows_of n b u) ≡ true → i < u → p (row_at n b i) ≡ true
all_rows p n b u i e h = all_row p (rows_of n b u) i (row_at n b i) e (rows_row n b u i h)

-- Rows of which each stands before the next are in order, and the other way round.
pub next_ordered : (n b : List ℕ) (u : ℕ) → ((i : ℕ) → suc i < u → ahead (row_at n b i) (row_at n b (suc i)) ≡ true) → ordered (rows_of n b u) ≡ true
next_ordered n b zero f = refl
next_ordered n b (suc zero) f = refl
next_ordered n b (suc (suc u)) f =
    let x = row_at n b 0 in
    let y = row_at (drop 8 n) (drop 64 b) 0 in
    let h : ahead x y ≡ true = ap (ahead x) (sym (row_next n b 0)) ∙ f 0 (omega arith) in
    let o = next_ordered (drop 8 n) (drop 64 b) (suc u) (λ i l. ap₂ ahead (sym (row_next n b i)) (sym (row_next n b (suc i))) ∙ f (suc i) (omega arith)) in
    let ys = rows_of (drop 8 (drop 8 n)) (drop 64 (drop 64 b)) u in
    and_i (all (ahead x) (y ∷ ys)) _ (and_i (ahead x y) _ h (all_as (ahead y) (ahead x) (λ z d. ahead_trans x y z h d) ys (and_l (all (ahead y) ys) _ o))) o

pub ordered_next : (n b : List ℕ) (u i : ℕ) → ordered (rows_of n b u) ≡ true → suc i < u → ahead (row_at n b i) (row_at n b (suc i)) ≡ true
ordered_next n b zero i o h = absurd (omega arith)
ordered_next n b (suc u) zero o h =
    ap (ahead (row_at n b 0)) (row_next n b 0) ∙ all_rows (ahead (row_at n b 0)) (drop 8 n) (drop 64 b) u 0 (and_l _ _ o) (omega arith)
ordered_next n b (suc u) (suc i) o h =
    ap₂ ahead (row_next n b i) (row_next n b (suc i))
    ∙ ordered_next (drop 8 n) (drop 64 b) u i (and_r (all (ahead (row_at n b 0)) (rows_of (drop 8 n) (drop 64 b) u)) _ o) (omega arith)

-- ## The buffers are what their rows are written as

none : (l : List ℕ) → length l ≡ 0 → l ≡ []
none [] e = refl
none (x ∷ l) e = absurd (omega arith)

free : (k : ℕ) (l : List ℕ) → length l ≡ k → zeros l ≡ true → replicate k 0 ≡ l
free k l h e = rw (← h) (sym (zeros_are l e))

eight : (l b : List ℕ) → 8 ≤ length l → numbers_of_row (row_in (take 8 l) b) ≡ take 8 l
eight [] b h = absurd (omega arith)
eight (x0 ∷ []) b h = absurd (omega arith)
eight (x0 ∷ x1 ∷ []) b h = absurd (omega arith)
eight (x0 ∷ x1 ∷ x2 ∷ []) b h = absurd (omega arith)
eight (x0 ∷ x1 ∷ x2 ∷ x3 ∷ []) b h = absurd (omega arith)
eight (x0 ∷ x1 ∷ x2 ∷ x3 ∷ x4 ∷ []) b h = absurd (omega arith)
eight (x0 ∷ x1 ∷ x2 ∷ x3 ∷ x4 ∷ x5 ∷ []) b h = absurd (omega arith)
eight (x0 ∷ x1 ∷ x2 ∷ x3 ∷ x4 ∷ x5 ∷ x6 ∷ []) b h = absurd (omega arith)
eight (x0 ∷ x1 ∷ x2 ∷ x3 ∷ x4 ∷ x5 ∷ x6 ∷ x7 ∷ l) b h = refl

pub numbers_back : (c u : ℕ) (n b : List ℕ) → length n ≡ 8 * c → u ≤ c → zeros (drop (8 * u) n) ≡ true → numbers_of c (rows_of n b u) ≡ n
numbers_back zero u n b l h z = sym (none n l)
numbers_back (suc c) zero n b l h z = lay_free numbers_laying (suc c) ∙ free (8 * suc c) n l z
numbers_back (suc c) (suc u) n b l h z =
    ap₂ (λ (k l : List ℕ). k ++ l) (eight n (take 64 b) (omega arith))
    (numbers_back c u (drop 8 n) (drop 64 b) (rw length-drop (omega arith)) (omega arith) (rw (← drop_next 8 u n) z))
    ∙ take-append-drop 8 n

pub keys_back : (c u : ℕ) (n b : List ℕ) → length b ≡ 64 * c → u ≤ c → ((i : ℕ) → i < u → is_block (block_at b i) ≡ true) → zeros (drop (64 * u) b) ≡ true
    → keys_of c (rows_of n b u) ≡ b
unfolding is_block
keys_back zero u n b l h f z = sym (none b l)
keys_back (suc c) zero n b l h f z = lay_free keys_laying (suc c) ∙ free (64 * suc c) b l z
keys_back (suc c) (suc u) n b l h f z =
    let e : block_of (key_in (take 64 b)) ≡ take 64 b = sym (same_path (take 64 b) (block_of (key_in (take 64 b))) (f 0 (omega arith))) in
    rw (e, keys_back c u (drop 8 n) (drop 64 b) (rw length-drop (omega arith)) (omega arith) (λ i g. rw (← drop_next 64 i b) (f (suc i) (omega arith))) (rw (← drop_next 64 u b) z))
    (take-append-drop 64 b)
