-- Numbers as bytes: read and written one after the other, and the way back in both directions.
use Prim.Native.Nat.{ℕ, zero, suc, ◌+◌, ◌*◌, ◌-◌, ◌≤◌, ◌<◌}
use mathlib.Core.Path.{◌≡◌, refl, sym, ap, ap₂, ◌∙◌}
use mathlib.Core.Bool.{true}
use mathlib.Core.List.{List, [], ◌∷◌, ◌++◌, append_assoc, append-nil}
use native.Mathlib.Omega.{arith}
use native.Mathlib.Numerals.{add-one}
use lib.ListN.{length, get_or, take, drop, set, replicate, length-append, length-take}
use lib.Seq.{take-suc, take-suc-set, take_all, take_at, drop_at, drop-drop}
use borrow.Author.Tests.{ltb-true}
use Rattle.buffers.specs.Lists.{all}
use Rattle.buffers.specs.Words.{number, spelled}
use Rattle.buffers.specs.Writes.{Wrote}
use Rattle.buffers.proofs.Tests.{and_l, and_r}
use Rattle.buffers.proofs.Words.{length_spelled, number_spelled}
use Rattle.buffers.proofs.Writes.{wrote_both, wrote_as}
use Rattle.settings.specs.Bytes.{is_word}
use Rattle.settings.proofs.Decoding.{filled}
use Rattle.knitpasture.specs.Bytes.{numbers_from, numbers_bytes}

-- ## Lengths

pub length_bytes : (ns : List ℕ) → length (numbers_bytes ns) ≡ 8 * length ns
unfolding numbers_bytes
length_bytes [] = refl
length_bytes (n ∷ ns) = rw (length-append, length_spelled, length_bytes ns) (omega arith)

-- ## Reading

-- the first i of n numbers are read
abbrev pub Reading : List ℕ → ℕ → List ℕ → ℕ → Type 0
Reading b n t i = (i ≤ n) × (length t ≡ n) × (take i t ++ numbers_from (n - i) (drop (8 * i) b) ≡ numbers_from n b)

numbers_none : (b : List ℕ) → numbers_from 0 b ≡ []
unfolding numbers_from
numbers_none b = refl

numbers_more : (k : ℕ) (b : List ℕ) → numbers_from (suc k) b ≡ number (take 8 b) ∷ numbers_from k (drop 8 b)
unfolding numbers_from
numbers_more k b = refl

pub read_start : (n : ℕ) (b : List ℕ) → numbers_from (n - 0) b ≡ numbers_from n b
read_start n b = ap (λ (k : ℕ). numbers_from k b) (omega arith)

pub read_step : (t b : List ℕ) (n i x : ℕ) → x ≡ number (take 8 (drop (8 * i) b)) → i < n → length t ≡ n
    → take i t ++ numbers_from (n - i) (drop (8 * i) b) ≡ numbers_from n b
    → take (i + 1) (set t i x) ++ numbers_from (n - (i + 1)) (drop (8 * (i + 1)) b) ≡ numbers_from n b
read_step t b n i x v h l e =
    let k : n - i ≡ suc (n - (i + 1)) = omega arith in
    let d : 8 * (i + 1) ≡ 8 * i + 8 = omega arith in
    let m : take (suc i) (set t i x) ≡ take i t ++ (x ∷ []) = take-suc-set t i x (omega arith) in
    rw (d, ← drop-drop 8 (8 * i) b, add-one i, m, append_assoc, v, ← add-one i, ← numbers_more (n - (i + 1)) (drop (8 * i) b), ← k) e

pub read_end : (t b : List ℕ) (n i : ℕ) → length t ≡ n → i ≤ n → n ≤ i → take i t ++ numbers_from (n - i) (drop (8 * i) b) ≡ numbers_from n b → t ≡ numbers_from n b
read_end t b n i l h k e =
    let z : n - i ≡ 0 = omega arith in
    sym (append-nil t) ∙ rw (take_all i t (omega arith), z, numbers_none) at e

-- ## Writing

-- the first i numbers are written
abbrev pub Writing : List ℕ → List ℕ → List ℕ → ℕ → Type 0
Writing ns b₀ b i = Wrote b₀ 0 (numbers_bytes (take i ns)) (8 * i) b (8 * i)

bytes_append : (ns ms : List ℕ) → numbers_bytes (ns ++ ms) ≡ numbers_bytes ns ++ numbers_bytes ms
unfolding numbers_bytes
bytes_append [] ms = refl
bytes_append (n ∷ ns) ms = rw (bytes_append ns ms, append_assoc)

bytes_one : (n : ℕ) → numbers_bytes (n ∷ []) ≡ spelled 8 n
unfolding numbers_bytes
bytes_one n = append-nil (spelled 8 n)

pub write_start : (b : List ℕ) → Wrote b 0 (numbers_bytes []) 0 b 0
unfolding numbers_bytes
write_start b = record { next = refl; holds = refl; long = refl; most = omega arith }

pub write_step : (ns b₀ b exit : List ℕ) (i n r : ℕ) → Wrote b (8 * i) (spelled 8 n) 8 exit r → n ≡ get_or ns i 0 → i < length ns → Writing ns b₀ b i → Writing ns b₀ exit (i + 1)
write_step ns b₀ b exit i n r w f h v =
    let vs = numbers_bytes (take i ns) in
    let ws = spelled 8 n in
    let both = wrote_both b₀ 0 vs (8 * i) b (8 * i) ws 8 exit r (omega arith) v w in
    let e : vs ++ ws ≡ numbers_bytes (take (i + 1) ns) = sym (rw (add-one, take-suc ns i 0 h, ← f, bytes_append (take i ns) (n ∷ [])) (ap (λ (l : List ℕ). vs ++ l) (bytes_one n))) in
    let k : length (numbers_bytes (take (i + 1) ns)) ≡ 8 * (i + 1) = rw (length_bytes, length-take) (omega arith) in
    let j : length (vs ++ ws) ≡ 8 * (i + 1) = ap length e ∙ k in
    let q : r ≡ 8 * (i + 1) = omega (arith, both.next) in
    rw q at (wrote_as b₀ 0 (vs ++ ws) (numbers_bytes (take (i + 1) ns)) (8 * i + 8) (8 * (i + 1)) exit r both e (omega arith))

pub write_end : (ns b₀ b : List ℕ) (i : ℕ) → length b₀ ≡ 8 * length ns → length ns ≤ i → Writing ns b₀ b i → b ≡ numbers_bytes ns
write_end ns b₀ b i l k w =
    let t : take i ns ≡ ns = take_all i ns k in
    filled b₀ (numbers_bytes ns) (8 * i) b (8 * i) (rw t at w) (length_bytes ns ∙ sym l)

pub ruleset number_cases = (read_start, read_step, read_end, write_start, write_step, write_end)

-- ## The way back

-- Numbers of eight bytes that were written read as themselves.
pub numbers_back : (ns : List ℕ) → all is_word ns ≡ true → numbers_from (length ns) (numbers_bytes ns) ≡ ns
unfolding numbers_from numbers_bytes
numbers_back [] h = refl
numbers_back (n ∷ ns) h =
    let w = spelled 8 n in
    let t : take 8 (w ++ numbers_bytes ns) ≡ w = take_at w (numbers_bytes ns) 8 (length_spelled 8 n) in
    let d : drop 8 (w ++ numbers_bytes ns) ≡ numbers_bytes ns = drop_at w (numbers_bytes ns) 8 (length_spelled 8 n) in
    let b : n < 18446744073709551616 = ltb-true n 18446744073709551616 (and_l _ _ h) in
    ap₂ (λ (x : ℕ) (l : List ℕ). x ∷ l) (ap number t ∙ number_spelled 8 n (omega arith))
    (ap (numbers_from (length ns)) d ∙ numbers_back ns (and_r (is_word n) _ h))

-- Zeros are written as zeros.
pub zeros_written : (k : ℕ) → numbers_bytes (replicate k 0) ≡ replicate (8 * k) 0
unfolding numbers_bytes spelled
zeros_written zero = refl
zeros_written (suc k) =
    let e : 8 * suc k ≡ suc (suc (suc (suc (suc (suc (suc (suc (8 * k)))))))) = omega arith in
    rw (e, zeros_written k)
