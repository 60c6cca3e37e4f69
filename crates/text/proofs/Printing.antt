-- The digits of a number, and writing them.
use Prim.Native.Nat.{ℕ, zero, suc, ◌+◌, ◌*◌, ◌/◌, ◌%◌, ◌^◌, ◌≤◌, ◌<◌}
use mathlib.Core.Path.{◌≡◌, refl, sym, ap, ◌∙◌}
use mathlib.Core.Bool.{Bool, true, false}
use mathlib.Core.List.{List, [], ◌∷◌, ◌++◌, append_assoc}
use native.Mathlib.Omega.{arith}
use lib.ListN.{length, take, drop, length-append, take-append-drop}
use lib.Dec.{ltb}
use borrow.Author.Tests.{lt-ltb, le-ltb, ltb-false}
use Rattle.std.specs.Fmt.{decimal}
use Rattle.std.proofs.Math.Nat.{one-le-pow}
use Rattle.std.proofs.lemmas.Fmt.{decimal_by_steps, decimal_digit, length-decimal-le}
use Rattle.buffers.specs.Choices.{pick}
use Rattle.buffers.specs.Writes.{Wrote}
use Rattle.text.specs.Printing.{digits_up, digits}

-- ## The digits

-- Any number of steps above n is enough.
steps : (f g n : ℕ) → n < f → n < g → digits_up f n ≡ digits_up g n
steps zero g n a b = absurd (omega arith)
steps (suc f) zero n a b = absurd (omega arith)
steps (suc f) (suc g) n a b = go (ltb n 10) refl (λ h. steps f g (n / 10) (omega arith) (omega arith))
  where
    go : (t : Bool) → ltb n 10 ≡ t → (10 ≤ n → digits_up f (n / 10) ≡ digits_up g (n / 10))
        → pick t ((48 + n) ∷ []) (digits_up f (n / 10) ++ (48 + n % 10) ∷ []) ≡ pick t ((48 + n) ∷ []) (digits_up g (n / 10) ++ (48 + n % 10) ∷ [])
    go true e h = refl
    go false e h = rw (h (ltb-false n 10 e))

pub digits_one : (n : ℕ) → n < 10 → digits n ≡ (48 + n) ∷ []
unfolding digits
digits_one n h = simp (lt-ltb _ _ h)

pub digits_more : (n : ℕ) → 10 ≤ n → digits n ≡ digits (n / 10) ++ (48 + n % 10) ∷ []
unfolding digits
digits_more n h = simp (le-ltb _ _ h) (ap (λ (l : List ℕ). l ++ (48 + n % 10) ∷ []) (steps n (suc (n / 10)) (n / 10) (omega arith) (omega arith)))

-- They are std's.
digits_decimal : (n : ℕ) → n < 2 ^ 64 → digits n ≡ decimal n
digits_decimal = decimal_by_steps (λ m ds. digits m ≡ ds) digits_one (λ m ds h e. digits_more m h ∙ rw e)

-- ## How many they are

length_least : (n : ℕ) → n < 2 ^ 64 → (k : ℕ) → 10 ^ k ≤ n → k + 1 ≤ length (decimal n)
length_least = decimal_by_steps (λ m ds. (k : ℕ) → 10 ^ k ≤ m → k + 1 ≤ length ds) one more
  where
    one : (m : ℕ) → m < 10 → (k : ℕ) → 10 ^ k ≤ m → k + 1 ≤ 1
    one m h zero e = omega arith
    one m h (suc k) e = let p : 1 ≤ 10 ^ k = one-le-pow k 10 (omega arith) in absurd (omega arith)

    more : (m : ℕ) (ds : List ℕ) → 10 ≤ m → ((k : ℕ) → 10 ^ k ≤ m / 10 → k + 1 ≤ length ds) → (k : ℕ) → 10 ^ k ≤ m → k + 1 ≤ length (ds ++ (48 + m % 10) ∷ [])
    more m ds h f zero e = let l = length-append ds ((48 + m % 10) ∷ []) in omega arith
    more m ds h f (suc k) e =
        let l = length-append ds ((48 + m % 10) ∷ []) in
        let g = f k (omega arith) in
        omega arith

pub length_log : (n k : ℕ) → n < 2 ^ 64 → 10 ^ k ≤ n → n < 10 * 10 ^ k → k + 1 ≡ length (decimal n)
length_log n k f l u =
    let a = length_least n f k l in
    let b = length-decimal-le (suc k) n (omega arith) (omega arith) f in
    omega arith

pub length_zero : (n : ℕ) → n ≡ 0 → 1 ≡ length (decimal n)
length_zero n e = rw (e, decimal_digit 0 (omega arith)) refl

-- ## Writing them

-- what `write_digits` writes, so that it ends at `end`
pub digits_wrote : (out : List ℕ) (a n end r : ℕ) (exit : List ℕ) → n < 2 ^ 64 → end ≡ a + length (decimal n) → length (decimal n) ≤ 20 → length exit ≡ length out
    → r + length (decimal n) ≡ end → drop r exit ≡ decimal n ++ drop end out → take r exit ≡ take r out → Wrote out a (digits n) 20 exit end
digits_wrote out a n end r exit f e few long s w b =
    let q : r ≡ a = omega arith in
    rw (digits_decimal n f) (record {
      next = e;
      holds = sym (take-append-drop r exit) ∙ rw (b, w, q, e, append_assoc) refl;
      long = long;
      most = omega arith;
    })
