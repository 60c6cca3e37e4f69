-- Laws of numbers as bytes: the way back in both directions, and a word by its eight bytes.
use Prim.Native.Nat.{ℕ, zero, suc, ◌+◌, ◌*◌, ◌/◌, ◌%◌, ◌^◌, ◌<◌}
use mathlib.Core.Path.{◌≡◌, refl, ap, ◌∙◌}
use mathlib.Core.List.{List, [], ◌∷◌}
use native.Mathlib.Omega.{arith}
use native.Mathlib.Numerals.{add-one}
use native.Mathlib.Nat.{pow-succ', le_of_eq, div-one, div-div-eq-div-mul}
use lib.ListN.{length, take, drop, get_or, drop_of_length-le}
use lib.Seq.{drop-cons, get_or-drop}
use Rattle.std.specs.Int.{w64, to_le_bytes, from_le_bytes, byte_at, bytes_low_first}
use Rattle.buffers.specs.Words.{number, spelled, AllBytes}

pub length_spelled : (k n : ℕ) → length (spelled k n) ≡ k
unfolding spelled
length_spelled zero n = refl
length_spelled (suc k) n = ap suc (length_spelled k (n / 256))

-- A number that k bytes hold is spelled by them.
pub number_spelled : (k n : ℕ) → n < 256 ^ k → number (spelled k n) ≡ n
unfolding number spelled
number_spelled zero n h = omega arith
number_spelled (suc k) n h = omega (arith, number_spelled k (n / 256) (omega (arith, pow-succ' 256 k)))

-- Bytes spell no number but their own.
pub spelled_number : (bs : List ℕ) → AllBytes bs → spelled (length bs) (number bs) ≡ bs
unfolding number spelled
spelled_number [] h = refl
spelled_number (b ∷ bs) h =
    let k : b < 256 = h 0 in
    let r : (b + 256 * number bs) % 256 ≡ b = omega arith in
    let q : (b + 256 * number bs) / 256 ≡ number bs = omega arith in
    rw (r, q, spelled_number bs (λ i. h (suc i)))

-- ## Parts of bytes

pub bytes_take : (n : ℕ) (bs : List ℕ) → AllBytes bs → AllBytes (take n bs)
bytes_take zero bs h k = omega arith
bytes_take (suc n) [] h k = omega arith
bytes_take (suc n) (b ∷ bs) h zero = h 0
bytes_take (suc n) (b ∷ bs) h (suc k) = bytes_take n bs (λ i. h (suc i)) k

pub bytes_drop : (n : ℕ) (bs : List ℕ) → AllBytes bs → AllBytes (drop n bs)
bytes_drop n bs h k = rw (get_or-drop n bs k 0) (h (n + k))

-- ## A word, as std reads and writes it

byte_is : (i n : ℕ) → byte_at i n ≡ n / 256 ^ i % 256
byte_is zero n = rw div-one
byte_is (suc i) n = refl

bytes_from : (i k n : ℕ) → bytes_low_first i k n ≡ spelled k (n / 256 ^ i)
unfolding spelled
bytes_from i zero n = refl
bytes_from i (suc k) n =
    let p : 256 ^ suc i ≡ 256 ^ i * 256 = omega (arith, pow-succ' 256 i) in
    let d : n / 256 ^ i / 256 ≡ n / 256 ^ suc i = rw p (div-div-eq-div-mul n (256 ^ i) 256) in
    rw (byte_is i n, bytes_from (suc i) k n, d)

pub word_spelled : (n : ℕ) → to_le_bytes w64 n ≡ spelled 8 n
word_spelled n = bytes_from 0 8 n ∙ rw div-one

no_bytes : number [] ≡ 0
unfolding number
no_bytes = refl

first_byte : (bs : List ℕ) (i : ℕ) → i < length bs → number (drop i bs) ≡ get_or bs i 0 + 256 * number (drop (i + 1) bs)
unfolding number
first_byte bs i h = rw (drop-cons bs i 0 h, add-one i)

pub word_number : (bs : List ℕ) → length bs ≡ 8 → from_le_bytes w64 bs ≡ number bs
word_number bs h =
    let e0 = first_byte bs 0 (omega arith) in
    let e1 = first_byte bs 1 (omega arith) in
    let e2 = first_byte bs 2 (omega arith) in
    let e3 = first_byte bs 3 (omega arith) in
    let e4 = first_byte bs 4 (omega arith) in
    let e5 = first_byte bs 5 (omega arith) in
    let e6 = first_byte bs 6 (omega arith) in
    let e7 = first_byte bs 7 (omega arith) in
    let e8 : number (drop 8 bs) ≡ 0 = rw (drop_of_length-le bs (le_of_eq h)) no_bytes in
    omega arith
