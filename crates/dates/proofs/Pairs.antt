-- Laws of eight bytes at once: what three pairs of digits with a separator between them are, and the numbers that they spell.
use Prim.Native.Nat.{ℕ, zero, suc, ◌+◌, ◌-◌, ◌*◌, ◌/◌, ◌%◌, ◌^◌, ◌≤◌, ◌<◌}
use mathlib.Core.Path.{◌≡◌, refl, sym, ap, ◌∙◌}
use mathlib.Core.Logic.{inl, inr}
use mathlib.Core.Bool.{Bool, true, false, ◌&&◌, ◌||◌, not, false≢true}
use mathlib.Core.List.{List, [], ◌∷◌}
use Rattle.std.specs.Prelude.{Option, Some, None}
use native.Mathlib.Omega.{arith}
use native.Mathlib.Numerals.{add-one}
use mir.Val.{Fits}
use mir.Syntax.{w8, w64}
use lib.Bits.{bit_and, bit_xor, or_add_and, or_lt, xor_lt, xor_self}
use lib.Dec.{eqb, leb, ltb}
use lib.ListN.{length, get_or, take, drop}
use lib.Seq.{drop-cons}
use borrow.Author.Tests.{eqb-true, leb-true, ltb-true, lt-ltb}
use Rattle.buffers.specs.Choices.{pick, then_some}
use Rattle.buffers.specs.Lists.{all}
use Rattle.buffers.specs.Words.{number, AllBytes}
use Rattle.buffers.proofs.Tests.{either, and_l, and_r}
use Rattle.buffers.proofs.Words.{bytes_take, bytes_drop}
use Rattle.calendar.proofs.Tables.{upto, upto_at}
use Rattle.text.specs.Numbers.{is_digit}
use Rattle.dates.specs.Pairs.{apart, is_pairs, pairs_of}
use Rattle.dates.specs.Reading.{digit_of, two_digits, four_digits, day_number, day_at, second_of_day, second_at}
use Rattle.dates.proofs.Reading.{digit_value}
use Rattle.dates.proofs.Words.{both, xor_bytes, sum_bytes, low, near, near_both, lows, sums_bytes, low_bytes}

-- ## What three pairs are

-- what a byte may be above its part of `00:00:00`: 15 less its part of the room
abbrev room : List ℕ
room = 6 ∷ 6 ∷ 15 ∷ 6 ∷ 6 ∷ 15 ∷ 6 ∷ 6 ∷ []

-- What passes at 0 and at every element passes wherever a list is read.
passes_at : (f : ℕ → Bool) (xs : List ℕ) (k : ℕ) → f 0 ≡ true → all f xs ≡ true → f (get_or xs k 0) ≡ true
passes_at f [] k z e = z
passes_at f (x ∷ xs) zero z e = and_l (f x) _ e
passes_at f (x ∷ xs) (suc k) z e = passes_at f xs k z (and_r (f x) _ e)

room_most : (k : ℕ) → get_or room k 0 ≤ 15
room_most k = leb-true (get_or room k 0) 15 (passes_at (λ m. leb m 15) room k refl refl)

module _ (d0 d1 d2 d3 d4 d5 d6 d7 : ℕ) where
  abbrev eight : List ℕ
  eight = d0 ∷ d1 ∷ d2 ∷ d3 ∷ d4 ∷ d5 ∷ d6 ∷ d7 ∷ []

  pairs_near : AllBytes eight → is_pairs (number eight) ≡ near eight room
  unfolding is_pairs number
  pairs_near h =
      elim (either (all low eight)) [
        | inl t ↦ rw (low_bytes eight h, near_both eight room refl, t, sum_bytes eight room refl, low_bytes (both ◌+◌ eight room) (sums_bytes eight room (lows eight h t) room_most))
        | inr t ↦ rw (low_bytes eight h, near_both eight room refl, t)
      ]

-- ## Digits and separators

-- Tests that agree are the same.
agree : (a b : Bool) → pick a b (not b) ≡ true → a ≡ b
agree true true e = refl
agree true false e = absurd (false≢true e)
agree false true e = absurd (false≢true e)
agree false false e = refl

-- a byte is near to a pattern's p, with room m
abbrev near_to : ℕ → ℕ → ℕ → Bool
near_to p m b = low (bit_xor b p) && low (bit_xor b p + m)

digit_near : (b : ℕ) → b < 256 → near_to 48 6 b ≡ is_digit b
unfolding is_digit
digit_near b h = agree _ _ (upto_at 256 (λ k. pick (near_to 48 6 k) (is_digit k) (not (is_digit k))) refl b h)

digit_apart : (b : ℕ) → b < 256 → is_digit b ≡ true → bit_xor b 48 ≡ b - 48
unfolding is_digit
digit_apart b h t = eqb-true _ _ (rw t at (upto_at 256 (λ k. not (is_digit k) || eqb (bit_xor k 48) (k - 48)) refl b h))

-- only the separator is near to itself, with room 15
abbrev separates : ℕ → ℕ → Bool
separates p k = pick (near_to p 15 k) (eqb k p) (not (eqb k p))

separator_near : (p b : ℕ) → upto 256 (separates p) ≡ true → b < 256 → near_to p 15 b ≡ eqb b p
separator_near p b e h = agree _ _ (upto_at 256 (separates p) e b h)

xors_bytes : (xs ys : List ℕ) → AllBytes xs → AllBytes ys → AllBytes (both bit_xor xs ys)
xors_bytes [] ys h g k = omega arith
xors_bytes (x ∷ xs) [] h g k = omega arith
xors_bytes (x ∷ xs) (y ∷ ys) h g zero = xor_lt 8 x y (h 0) (g 0)
xors_bytes (x ∷ xs) (y ∷ ys) h g (suc k) = xors_bytes xs ys (λ i. h (suc i)) (λ i. g (suc i)) k

-- the numbers that three pairs of digits spell, in y
pub record Spelt (y a b c : ℕ) : Type 0 where
  pub first : y % 256 ≡ a
  pub second : y / 16777216 % 256 ≡ b
  pub third : y / 281474976710656 % 256 ≡ c

second_byte : (y l a r : ℕ) → y ≡ l + 16777216 * (a + 256 * r) → l < 16777216 → a < 256 → y / 16777216 % 256 ≡ a
second_byte y l a r e h g = let q : y / 16777216 ≡ a + 256 * r = omega arith in rw q (omega arith)

third_byte : (y l a r : ℕ) → y ≡ l + 281474976710656 * (a + 256 * r) → l < 281474976710656 → a < 256 → y / 281474976710656 % 256 ≡ a
third_byte y l a r e h g = let q : y / 281474976710656 ≡ a + 256 * r = omega arith in rw q (omega arith)

module _ (d0 d1 d3 d4 d6 d7 : ℕ) where
  -- ten times the word and the word behind its first byte, put together again byte by byte
  pairs_first : (x : ℕ) → x ≡ number (eight d0 d1 0 d3 d4 0 d6 d7) → d0 ≤ 9 → pairs_of x ≡ d0 * 10 + number (eight d1 0 d3 d4 0 d6 d7 0) + 2560 * number (eight d1 0 d3 d4 0 d6 d7 0)
  unfolding pairs_of number
  pairs_first x e h = let q : x / 256 ≡ number (eight d1 0 d3 d4 0 d6 d7 0) = omega arith in rw q (omega arith)

  spelt_pairs : (x : ℕ) → x ≡ number (eight d0 d1 0 d3 d4 0 d6 d7) → d0 ≤ 9 → d1 ≤ 9 → d3 ≤ 9 → d4 ≤ 9 → d6 ≤ 9 → d7 ≤ 9
      → Spelt (pairs_of x) (d0 * 10 + d1) (d3 * 10 + d4) (d6 * 10 + d7)
  unfolding number
  spelt_pairs x e h0 h1 h3 h4 h6 h7 =
      let y : pairs_of x ≡ d0 * 10 + number (eight d1 0 d3 d4 0 d6 d7 0) + 2560 * number (eight d1 0 d3 d4 0 d6 d7 0) = pairs_first x e h0 in
      let n4 : ℕ = d4 + 65536 * (d6 + 256 * d7) in
      let l : ℕ = d0 * 10 + 2561 * d1 + 65536 * d3 in
      record {
        first = omega arith;
        second = second_byte (pairs_of x) l (d3 * 10 + d4) (10 * n4 + 256 * (d6 + 256 * d7)) (omega arith) (omega arith) (omega arith);
        third = third_byte (pairs_of x) (l + 16777216 * (d3 * 10 + 2561 * d4 + 65536 * d6)) (d6 * 10 + d7) (10 * d7) (omega arith) (omega arith) (omega arith);
      }

-- ## The eight bytes of a text

-- zeros with a separator between them
abbrev pattern : ℕ → List ℕ
pattern p = eight 48 48 p 48 48 p 48 48

pattern_bytes : (p : ℕ) → p < 256 → AllBytes (pattern p)
pattern_bytes p h k = ltb-true _ _ (passes_at (λ b. ltb b 256) (pattern p) k refl (rw (lt-ltb p 256 h)))

-- three pairs of digits with a separator between them
abbrev pair_tests : (p b0 b1 b2 b3 b4 b5 b6 b7 : ℕ) → Bool
pair_tests p b0 b1 b2 b3 b4 b5 b6 b7 =
    (is_digit b0 && is_digit b1) && (eqb b2 p && ((is_digit b3 && is_digit b4) && (eqb b5 p && (is_digit b6 && is_digit b7))))

grouped : (a b c d e f g h : Bool) → (a && (b && (c && (d && (e && (f && (g && (h && true)))))))) ≡ ((a && b) && (c && ((d && e) && (f && (g && h)))))
grouped true true true true true true true true = refl
grouped true true true true true true true false = refl
grouped true true true true true true false h = refl
grouped true true true true true false g h = refl
grouped true true true true false f g h = refl
grouped true true true false e f g h = refl
grouped true true false d e f g h = refl
grouped true false c d e f g h = refl
grouped false b c d e f g h = refl

module _ (p b0 b1 b2 b3 b4 b5 b6 b7 : ℕ) (e : upto 256 (separates p) ≡ true) (small : p < 256) (h : AllBytes (eight b0 b1 b2 b3 b4 b5 b6 b7)) where
  bytes_apart : bit_xor (number (eight b0 b1 b2 b3 b4 b5 b6 b7)) (number (pattern p)) ≡ number (both bit_xor (eight b0 b1 b2 b3 b4 b5 b6 b7) (pattern p))
  bytes_apart = xor_bytes (eight b0 b1 b2 b3 b4 b5 b6 b7) (pattern p) h (pattern_bytes p small) refl

  pairs_tested : is_pairs (bit_xor (number (eight b0 b1 b2 b3 b4 b5 b6 b7)) (number (pattern p))) ≡ pair_tests p b0 b1 b2 b3 b4 b5 b6 b7
  pairs_tested =
      ap is_pairs bytes_apart
      ∙ pairs_near (bit_xor b0 48) (bit_xor b1 48) (bit_xor b2 p) (bit_xor b3 48) (bit_xor b4 48) (bit_xor b5 p) (bit_xor b6 48) (bit_xor b7 48)
      (xors_bytes (eight b0 b1 b2 b3 b4 b5 b6 b7) (pattern p) h (pattern_bytes p small))
      ∙ rw (
        digit_near b0 (h 0),
        digit_near b1 (h 1),
        separator_near p b2 e (h 2),
        digit_near b3 (h 3),
        digit_near b4 (h 4),
        separator_near p b5 e (h 5),
        digit_near b6 (h 6),
        digit_near b7 (h 7),
      )
      (grouped (is_digit b0) (is_digit b1) (eqb b2 p) (is_digit b3) (is_digit b4) (eqb b5 p) (is_digit b6) (is_digit b7))

  pairs_spelt : pair_tests p b0 b1 b2 b3 b4 b5 b6 b7 ≡ true
      → Spelt (pairs_of (bit_xor (number (eight b0 b1 b2 b3 b4 b5 b6 b7)) (number (pattern p)))) ((b0 - 48) * 10 + (b1 - 48)) ((b3 - 48) * 10 + (b4 - 48)) ((b6 - 48) * 10 + (b7 - 48))
  pairs_spelt t =
      let t0 = and_l (is_digit b0 && is_digit b1) _ t in
      let r1 = and_r (is_digit b0 && is_digit b1) _ t in
      let r2 = and_r (eqb b2 p) _ r1 in
      let t3 = and_l (is_digit b3 && is_digit b4) _ r2 in
      let r4 = and_r (is_digit b3 && is_digit b4) _ r2 in
      let t6 = and_r (eqb b5 p) _ r4 in
      let s2 : b2 ≡ p = eqb-true b2 p (and_l (eqb b2 p) _ r1) in
      let s5 : b5 ≡ p = eqb-true b5 p (and_l (eqb b5 p) _ r4) in
      let z2 : bit_xor b2 p ≡ 0 = ap (λ (b : ℕ). bit_xor b p) s2 ∙ xor_self p in
      let z5 : bit_xor b5 p ≡ 0 = ap (λ (b : ℕ). bit_xor b p) s5 ∙ xor_self p in
      let d0 = and_l (is_digit b0) _ t0 in
      let d1 = and_r (is_digit b0) _ t0 in
      let d3 = and_l (is_digit b3) _ t3 in
      let d4 = and_r (is_digit b3) _ t3 in
      let d6 = and_l (is_digit b6) _ t6 in
      let d7 = and_r (is_digit b6) _ t6 in
      spelt_pairs (b0 - 48) (b1 - 48) (b3 - 48) (b4 - 48) (b6 - 48) (b7 - 48)
      (bit_xor (number (eight b0 b1 b2 b3 b4 b5 b6 b7)) (number (pattern p)))
      (bytes_apart ∙ rw (digit_apart b0 (h 0) d0, digit_apart b1 (h 1) d1, z2, digit_apart b3 (h 3) d3, digit_apart b4 (h 4) d4, z5, digit_apart b6 (h 6) d6, digit_apart b7 (h 7) d7))
      (digit_value b0 d0).most
      (digit_value b1 d1).most
      (digit_value b3 d3).most
      (digit_value b4 d4).most
      (digit_value b6 d6).most
      (digit_value b7 d7).most

eight_at : (s : List ℕ) (i : ℕ) → i + 8 ≤ length s
    → take 8 (drop i s) ≡ eight (get_or s i 0) (get_or s (i + 1) 0) (get_or s (i + 2) 0) (get_or s (i + 3) 0) (get_or s (i + 4) 0) (get_or s (i + 5) 0) (get_or s (i + 6) 0) (get_or s (i + 7) 0)
eight_at s i h =
    rw (first, next 1 (omega arith), next 2 (omega arith), next 3 (omega arith), next 4 (omega arith), next 5 (omega arith), next 6 (omega arith), next 7 (omega arith))
  where
    first : drop i s ≡ get_or s i 0 ∷ drop (i + 1) s
    first = rw (add-one i) (drop-cons s i 0 (omega arith))

    next : (j : ℕ) → j < 8 → drop (i + j) s ≡ get_or s (i + j) 0 ∷ drop (i + suc j) s
    next j g = let e : i + suc j ≡ suc (i + j) = omega arith in rw e (drop-cons s (i + j) 0 (omega arith))

-- the tests of a text's eight bytes from a place on
abbrev tests_at : ℕ → List ℕ → ℕ → Bool
tests_at p s i = pair_tests p (get_or s i 0) (get_or s (i + 1) 0) (get_or s (i + 2) 0) (get_or s (i + 3) 0) (get_or s (i + 4) 0) (get_or s (i + 5) 0) (get_or s (i + 6) 0) (get_or s (i + 7) 0)

-- digits stand at two places
abbrev digits_at : List ℕ → ℕ → ℕ → Bool
digits_at s i j = is_digit (get_or s i 0) && is_digit (get_or s j 0)

-- the number that the digits at two places spell
abbrev spell_at : List ℕ → ℕ → ℕ → ℕ
spell_at s i j = (get_or s i 0 - 48) * 10 + (get_or s j 0 - 48)

module _ (p : ℕ) (e : upto 256 (separates p) ≡ true) (small : p < 256) (s : List ℕ) (i : ℕ) (f : (j : ℕ) → Fits w8 (get_or s j 0)) (h : i + 8 ≤ length s) where
  bytes_at : AllBytes (take 8 (drop i s))
  bytes_at = bytes_take 8 (drop i s) (bytes_drop i s (λ j. omega (arith, f j)))

  tested_at : is_pairs (apart s i (number (pattern p))) ≡ tests_at p s i
  unfolding apart
  tested_at = rw (eight_at s i h) (pairs_tested p _ _ _ _ _ _ _ _ e small (rw (eight_at s i h) at bytes_at))

  spelt_at : tests_at p s i ≡ true → Spelt (pairs_of (apart s i (number (pattern p)))) (spell_at s i (i + 1)) (spell_at s (i + 3) (i + 4)) (spell_at s (i + 6) (i + 7))
  unfolding apart
  spelt_at t = rw (eight_at s i h) (pairs_spelt p _ _ _ _ _ _ _ _ e small (rw (eight_at s i h) at bytes_at) t)

-- ## Day and time of day by pairs

two_tested : (s : List ℕ) (i : ℕ) → two_digits s i ≡ pick (is_digit (get_or s i 0) && is_digit (get_or s (i + 1) 0)) (Some (spell_at s i (i + 1))) None
unfolding two_digits digit_of
two_tested s i = chosen (is_digit (get_or s i 0)) (is_digit (get_or s (i + 1) 0)) (get_or s i 0 - 48) (get_or s (i + 1) 0 - 48)
  where
    chosen : (a b : Bool) (x y : ℕ) → then_some (pick a (Some x) None) None (λ m. then_some (pick b (Some y) None) None (λ n. Some (m * 10 + n))) ≡ pick (a && b) (Some (x * 10 + y)) None
    chosen true true x y = refl
    chosen true false x y = refl
    chosen false b x y = refl

-- three readings with two separators between them, tested at once
tested : (a b c d e : Bool) (x y z : ℕ) (g : ℕ → ℕ → ℕ → Option ℕ)
    → pick b (pick d (then_some (pick a (Some x) None) None (λ k. then_some (pick c (Some y) None) None (λ m. then_some (pick e (Some z) None) None (λ n. g k m n)))) None) None
    ≡ pick (a && (b && (c && (d && e)))) (g x y z) None
tested true true true true true x y z g = refl
tested true true true true false x y z g = refl
tested true true true false e x y z g = refl
tested true true false true e x y z g = refl
tested true true false false e x y z g = refl
tested true false c d e x y z g = refl
tested false true c true e x y z g = refl
tested false true c false e x y z g = refl
tested false false c d e x y z g = refl

time_tested : (s : List ℕ) → second_at s ≡ pick (tests_at 58 s 11) (second_of_day (spell_at s 11 12) (spell_at s 14 15) (spell_at s 17 18)) None
unfolding second_at
time_tested s = rw (two_tested s 11, two_tested s 14, two_tested s 17) (tested (digits_at s 11 12) (eqb (get_or s 13 0) 58) (digits_at s 14 15) (eqb (get_or s 16 0) 58) (digits_at s 17 18) (spell_at s 11 12) (spell_at s 14 15) (spell_at s 17 18) second_of_day)

-- the date of a century and three numbers
abbrev date_of : ℕ → ℕ → ℕ → ℕ → Option ℕ
date_of a y m d = day_number (record { year = a * 100 + y; month = m; day = d })

day_tested : (s : List ℕ) (a : ℕ) → two_digits s 0 ≡ Some a → day_at s ≡ pick (tests_at 45 s 2) (date_of a (spell_at s 2 3) (spell_at s 5 6) (spell_at s 8 9)) None
unfolding day_at four_digits
day_tested s a e =
    rw (e, two_tested s 5, two_tested s 8, within (two_digits s 2) (λ y. a * 100 + y), two_tested s 2)
    (tested (digits_at s 2 3) (eqb (get_or s 4 0) 45) (digits_at s 5 6) (eqb (get_or s 7 0) 45) (digits_at s 8 9) (spell_at s 2 3) (spell_at s 5 6) (spell_at s 8 9) (date_of a))
  where
    within : (w : Option ℕ) (f : ℕ → ℕ) (g : ℕ → Option ℕ) → then_some (then_some w None (λ y. Some (f y))) None g ≡ then_some w None (λ y. g (f y))
    within None f g = refl
    within (Some y) f g = refl

day_untold : (s : List ℕ) → two_digits s 0 ≡ None → day_at s ≡ None
unfolding day_at four_digits
day_untold s e = rw e (missing (eqb (get_or s 4 0) 45) (eqb (get_or s 7 0) 45))
  where
    missing : (a b : Bool) → pick {A = Option ℕ} a (pick {A = Option ℕ} b None None) None ≡ None
    missing true true = refl
    missing true false = refl
    missing false b = refl

pub apart_is : (s : List ℕ) (i p w : ℕ) → w ≡ number (take 8 (drop i s)) → bit_xor w p ≡ apart s i p
unfolding apart
apart_is s i p w e = rw e

pub pairs_test : (b : Bool) (x : ℕ) → b ≡ is_pairs x → b ≡ true → is_pairs x ≡ true
pairs_test b x e t = sym e ∙ t

-- what was found of a text's eight bytes from a place on
module _ (p : ℕ) (e : upto 256 (separates p) ≡ true) (small : p < 256) (s : List ℕ) (i : ℕ) (f : (j : ℕ) → Fits w8 (get_or s j 0)) (h : i + 8 ≤ length s)
    (x : ℕ) (b : Bool) (ex : x ≡ apart s i (number (pattern p))) (eb : b ≡ is_pairs x) where
  tests_are : b ≡ tests_at p s i
  tests_are = eb ∙ ap is_pairs ex ∙ tested_at p e small s i f h

  numbers_are : (y : ℕ) → b ≡ true → y ≡ pairs_of x → Spelt y (spell_at s i (i + 1)) (spell_at s (i + 3) (i + 4)) (spell_at s (i + 6) (i + 7))
  numbers_are y t ey = rw (ey, ex) (spelt_at p e small s i f h (sym tests_are ∙ t))

module _ (s : List ℕ) (f : (j : ℕ) → Fits w8 (get_or s j 0)) (h : 20 ≤ length s) (x : ℕ) (b : Bool) (ex : x ≡ apart s 11 0x30303a30303a3030) (eb : b ≡ is_pairs x) where
  pub time_pairs : (y : ℕ) (v : Option ℕ) → b ≡ true → y ≡ pairs_of x → v ≡ second_of_day (y % 256) (y / 16777216 % 256) (y / 281474976710656 % 256) → v ≡ second_at s
  unfolding number
  time_pairs y v t ey ev =
      let z = numbers_are 58 refl (omega arith) s 11 f (omega arith) x b ex eb y t ey in
      ev ∙ rw (z.first, z.second, z.third, time_tested s, sym (tests_are 58 refl (omega arith) s 11 f (omega arith) x b ex eb), t)

  pub time_unpaired : b ≡ false → None ≡ second_at s
  unfolding number
  time_unpaired t = rw (time_tested s, sym (tests_are 58 refl (omega arith) s 11 f (omega arith) x b ex eb), t)

module _ (s : List ℕ) (r : Option ℕ) (er : r ≡ two_digits s 0) where
  pub day_no_century : r ≡ None → None ≡ day_at s
  day_no_century t = sym (day_untold s (sym er ∙ rw t))

  module _ (a : ℕ) (ea : r ≡ Some a) (f : (j : ℕ) → Fits w8 (get_or s j 0)) (h : 20 ≤ length s) (x : ℕ) (b : Bool) (ex : x ≡ apart s 2 0x30302d30302d3030) (eb : b ≡ is_pairs x) where
    pub day_pairs : (y : ℕ) (v : Option ℕ) → b ≡ true → y ≡ pairs_of x
        → v ≡ day_number (record { year = a * 100 + y % 256; month = y / 16777216 % 256; day = y / 281474976710656 % 256 }) → v ≡ day_at s
    unfolding number
    day_pairs y v t ey ev =
        let z = numbers_are 45 refl (omega arith) s 2 f (omega arith) x b ex eb y t ey in
        ev ∙ rw (z.first, z.second, z.third, day_tested s a (sym er ∙ rw ea), sym (tests_are 45 refl (omega arith) s 2 f (omega arith) x b ex eb), t)

    pub day_unpaired : b ≡ false → None ≡ day_at s
    unfolding number
    day_unpaired t = rw (day_tested s a (sym er ∙ rw ea), sym (tests_are 45 refl (omega arith) s 2 f (omega arith) x b ex eb), t)

pub ruleset pair_cases = (apart_is, pairs_test, time_pairs, time_unpaired, day_no_century, day_pairs, day_unpaired)

-- ## Room for sums

-- Bytes that are at most 15.
pairs_most : (x : ℕ) → x < 2 ^ 64 → bit_and x 0xf0f0f0f0f0f0f0f0 ≡ 0 → x ≤ 0x0f0f0f0f0f0f0f0f
pairs_most x h e = omega (arith, or_add_and x 0xf0f0f0f0f0f0f0f0, or_lt 64 x 0xf0f0f0f0f0f0f0f0 h (omega arith))

module _ (x : ℕ) (h : Fits w64 x) where
  pub pairs_room : bit_and x 0xf0f0f0f0f0f0f0f0 ≡ 0 → Fits w64 (x + 0x06060f06060f0606)
  pairs_room e = omega (arith, pairs_most x h.fits e)

  low_pairs : is_pairs x ≡ true → x ≤ 0x0f0f0f0f0f0f0f0f
  unfolding is_pairs
  low_pairs e = elim (either (eqb (bit_and x 0xf0f0f0f0f0f0f0f0) 0)) [
    | inl t ↦ pairs_most x h.fits (eqb-true _ _ t)
    | inr t ↦ absurd (false≢true (rw t at e))
  ]

  pub pairs_ten : is_pairs x ≡ true → Fits w64 (x * 10)
  pairs_ten e = omega (arith, low_pairs e)

  pub pairs_sum : is_pairs x ≡ true → Fits w64 (x * 10 + x / 256)
  pairs_sum e = omega (arith, low_pairs e)

pub ruleset pair_sums = (pairs_room, pairs_ten, pairs_sum)
