-- Every printed number reads back as the same number, and no tab stands in it.
use Prim.Native.Nat.{ℕ, zero, suc, ◌+◌, ◌-◌, ◌*◌, ◌/◌, ◌%◌, ◌≤◌, ◌<◌}
use mathlib.Core.Path.{◌≡◌, refl, sym, ap, ◌∙◌}
use mathlib.Core.Bool.{Bool, true, false}
use mathlib.Core.List.{List, [], ◌∷◌, ◌++◌}
use Rattle.std.specs.Prelude.{Some}
use native.Mathlib.Omega.{arith}
use lib.ListN.{length, get_or, length-append, get_or-append}
use lib.Dec.{ltb, eqb}
use borrow.Author.Tests.{le-ltb, le-leb, ltb-true, ltb-false, ne_eqb}
use Rattle.buffers.specs.Choices.{pick}
use Rattle.buffers.specs.Lists.{all}
use Rattle.buffers.proofs.Lists.{all_append}
use Rattle.text.specs.Numbers.{is_digit, spelt, leading_zero, number_of}
use Rattle.text.specs.Printing.{digits_up, digits}

pub digit_is : (d : ℕ) → d ≤ 9 → is_digit (48 + d) ≡ true
unfolding is_digit
digit_is d h = simp (le-ltb (48 + d) 48 (omega arith), le-leb (48 + d) 57 (omega arith))

up_digits : (f n : ℕ) → all is_digit (digits_up f n) ≡ true
up_digits zero n = refl
up_digits (suc f) n = go (ltb n 10) refl (up_digits f (n / 10))
  where
    go : (t : Bool) → ltb n 10 ≡ t → all is_digit (digits_up f (n / 10)) ≡ true
        → all is_digit (pick t ((48 + n) ∷ []) (digits_up f (n / 10) ++ (48 + n % 10) ∷ [])) ≡ true
    go true e h = let s = ltb-true n 10 e in rw (digit_is n (omega arith))
    go false e h = all_append is_digit (digits_up f (n / 10)) ((48 + n % 10) ∷ []) h (rw (digit_is (n % 10) (omega arith)))

spelt_append : (m : ℕ) (s t : List ℕ) → spelt m (s ++ t) ≡ spelt (spelt m s) t
spelt_append m [] t = refl
spelt_append m (b ∷ s) t = spelt_append (m * 10 + (b - 48)) s t

up_spelt : (f n : ℕ) → n < f → spelt 0 (digits_up f n) ≡ n
up_spelt zero n a = absurd (omega arith)
up_spelt (suc f) n a = go (ltb n 10) refl (λ h. up_spelt f (n / 10) (omega arith))
  where
    go : (t : Bool) → ltb n 10 ≡ t → (10 ≤ n → spelt 0 (digits_up f (n / 10)) ≡ n / 10)
        → spelt 0 (pick t ((48 + n) ∷ []) (digits_up f (n / 10) ++ (48 + n % 10) ∷ [])) ≡ n
    go true e h = omega arith
    go false e h =
        let s = ltb-false n 10 e in
        spelt_append 0 (digits_up f (n / 10)) ((48 + n % 10) ∷ []) ∙ rw (h s) (omega arith)

up_some : (f n : ℕ) → n < f → 0 < length (digits_up f n)
up_some zero n a = absurd (omega arith)
up_some (suc f) n a = go (ltb n 10)
  where
    go : (t : Bool) → 0 < length (pick t ((48 + n) ∷ []) (digits_up f (n / 10) ++ (48 + n % 10) ∷ []))
    go true = omega arith
    go false = simp length-append (omega arith)

up_first : (f n : ℕ) → 1 ≤ n → n < f → 49 ≤ get_or (digits_up f n) 0 0
up_first zero n h a = absurd (omega arith)
up_first (suc f) n h a =
    go (ltb n 10) refl (λ s. up_first f (n / 10) (omega arith) (omega arith)) (λ s. up_some f (n / 10) (omega arith))
  where
    go : (t : Bool) → ltb n 10 ≡ t → (10 ≤ n → 49 ≤ get_or (digits_up f (n / 10)) 0 0) → (10 ≤ n → 0 < length (digits_up f (n / 10)))
        → 49 ≤ get_or (pick t ((48 + n) ∷ []) (digits_up f (n / 10) ++ (48 + n % 10) ∷ [])) 0 0
    go true e x y = omega arith
    go false e x y =
        let s : 10 ≤ n = ltb-false n 10 e in
        rw (get_or-append (digits_up f (n / 10)) ((48 + n % 10) ∷ []) 0 0 (y s)) (x s)

-- A printed number has no leading zero.
no_zero_first : (n : ℕ) → leading_zero (digits n) ≡ false
unfolding leading_zero digits
no_zero_first zero = refl
no_zero_first (suc n) = go (ltb (length (digits_up (suc (suc n)) (suc n))) 2) (up_first (suc (suc n)) (suc n) (omega arith) (omega arith))
  where
    go : (t : Bool) → 49 ≤ get_or (digits_up (suc (suc n)) (suc n)) 0 0 → pick t false (eqb (get_or (digits_up (suc (suc n)) (suc n)) 0 0) 48) ≡ false
    go true h = refl
    go false h = ne_eqb (get_or (digits_up (suc (suc n)) (suc n)) 0 0) 48 (λ e. omega arith)

-- What is printed is read as the same number.
pub number_back : (k n : ℕ) → n ≤ k → number_of k (digits n) ≡ Some n
unfolding number_of digits
number_back k n h =
    let s = up_some (suc n) n (omega arith) in
    simp (ne_eqb (length (digits_up (suc n) n)) 0 (λ e. omega arith), no_zero_first n, up_digits (suc n) n, up_spelt (suc n) n (omega arith), le-ltb k n h)

-- Different numbers are printed differently.
pub digits_one_number : (m n : ℕ) → digits m ≡ digits n → m ≡ n
digits_one_number m n e =
    let s : Some m ≡ Some n = sym (number_back (m + n) m (omega arith)) ∙ ap (number_of (m + n)) e ∙ number_back (m + n) n (omega arith) in
    cc

-- Only digits are printed.
pub digits_all : (n : ℕ) → all is_digit (digits n) ≡ true
unfolding digits
digits_all n = up_digits (suc n) n
