-- Every printed date reads back as the same instant, and a midnight prints as one.
use Prim.Native.Nat.{ℕ, ◌+◌, ◌-◌, ◌*◌, ◌/◌, ◌%◌, ◌≤◌, ◌<◌}
use mathlib.Core.Path.{◌≡◌, refl, ap, ◌∙◌}
use mathlib.Core.List.{List, [], ◌∷◌}
use Rattle.std.specs.Prelude.{Some}
use native.Mathlib.Omega.{arith}
use lib.ListN.{get_or, drop}
use borrow.Author.Tests.{le-ltb}
use Rattle.buffers.specs.Texts.{bytes}
use Rattle.text.proofs.RoundTrip.{digit_is}
use Rattle.calendar.specs.declared.Civil.{Civil}
use Rattle.calendar.specs.Calendar.{latest, day, civil_of}
use Rattle.dates.specs.Reading.{digit_of, two_digits, four_digits, day_number, day_at, second_of_day, second_at, fraction_digit, milliseconds, fraction_of, read_date}
use Rattle.dates.specs.Printing.{last_digit, date_text, print_date}
use Rattle.calendar.proofs.Days.{valid_is, civil_valid, civil_days}

-- ## Digits

digit_back : (a : ℕ) → a ≤ 9 → digit_of (48 + a) ≡ Some a
unfolding digit_of
digit_back a h = let q : 48 + a - 48 ≡ a = omega arith in rw (digit_is a h) (ap Some q)

module _ (s : List ℕ) (i n : ℕ) where
  two_printed : (a b : ℕ) → get_or s i 0 ≡ 48 + a → get_or s (i + 1) 0 ≡ 48 + b → a ≤ 9 → b ≤ 9 → a * 10 + b ≡ n → two_digits s i ≡ Some n
  unfolding two_digits
  two_printed a b ea eb ha hb e = rw (ea, eb, digit_back a ha, digit_back b hb) (ap Some e)

  two_back : get_or s i 0 ≡ last_digit (n / 10) → get_or s (i + 1) 0 ≡ last_digit n → n ≤ 99 → two_digits s i ≡ Some n
  two_back ea eb h = two_printed (n / 10 % 10) (n % 10) ea eb (omega arith) (omega arith) (omega arith)

  four_printed : (a b : ℕ) → two_digits s i ≡ Some a → two_digits s (i + 2) ≡ Some b → a * 100 + b ≡ n → four_digits s i ≡ Some n
  unfolding four_digits
  four_printed a b ea eb e = rw (ea, eb) (ap Some e)

fraction_back : (a b d n : ℕ) → a ≤ 9 → b ≤ 9 → d ≤ 9 → a * 100 + b * 10 + d ≡ n → fraction_of (46 ∷ (48 + a) ∷ (48 + b) ∷ (48 + d) ∷ []) ≡ Some n
unfolding fraction_of milliseconds fraction_digit
fraction_back a b d n ha hb hd e =
    rw (digit_is a ha, digit_is b hb, digit_is d hd) (ap Some (omega arith))

-- ## The text

module _ (c : Civil) (t : ℕ) where
  pub year_back : c.year ≤ 9999 → four_digits (date_text c t) 0 ≡ Some c.year
  unfolding date_text
  year_back h =
      let y : ℕ = c.year in
      let s : List ℕ = date_text c t in
      four_printed s 0 y (y / 100) (y % 100)
      (two_printed s 0 (y / 100) (y / 1000 % 10) (y / 100 % 10) refl refl (omega arith) (omega arith) (omega arith))
      (two_printed s 2 (y % 100) (y / 10 % 10) (y % 10) refl refl (omega arith) (omega arith) (omega arith))
      (omega arith)

  day_back : c.year ≤ 9999 → c.month ≤ 99 → c.day ≤ 99 → day_at (date_text c t) ≡ day_number c
  unfolding day_at date_text
  day_back hy hm hd =
      let s : List ℕ = date_text c t in
      rw (
        year_back hy,
        two_back s 5 c.month refl refl hm,
        two_back s 8 c.day refl refl hd,
      )

  time_back : t < day → second_at (date_text c t) ≡ Some (t / 1000)
  unfolding second_at date_text second_of_day
  time_back h =
      let s : List ℕ = date_text c t in
      rw (
        two_back s 11 (t / 1000 / 60 / 60) refl refl (omega arith),
        two_back s 14 (t / 1000 / 60 % 60) refl refl (omega arith),
        two_back s 17 (t / 1000 % 60) refl refl (omega arith),
        le-ltb 23 (t / 1000 / 60 / 60) (omega arith),
        le-ltb 59 (t / 1000 / 60 % 60) (omega arith),
        le-ltb 59 (t / 1000 % 60) (omega arith),
      )
      (ap Some (omega arith))

  text_back : (n : ℕ) → c.year ≤ 9999 → c.month ≤ 99 → c.day ≤ 99 → t < day → day_number c ≡ Some n → read_date (date_text c t) ≡ Some (n * day + t / 1000 * 1000 + t % 1000)
  unfolding read_date date_text
  text_back n hy hm hd ht e =
      rw (
        day_back hy hm hd,
        e,
        time_back ht,
        fraction_back (t % 1000 / 100 % 10) (t % 1000 / 10 % 10) (t % 1000 % 10) (t % 1000) (omega arith) (omega arith) (omega arith) (omega arith),
      )

number_back : (n : ℕ) → n ≤ 2932896 → day_number (civil_of n) ≡ Some n
unfolding day_number
number_back n h = rw (civil_valid n h, civil_days n (omega arith))

pub round_trip : (t : ℕ) → t ≤ latest → read_date (print_date t) ≡ Some t
unfolding print_date
round_trip t h =
    let n : ℕ = t / day in
    let k : n ≤ 2932896 = omega arith in
    let b = (valid_is (civil_of n) (civil_valid n k)).bounds in
    text_back (civil_of n) (t % day) n b.to (omega (arith, b.last)) (omega (arith, b.most)) (omega arith) (number_back n k) ∙ ap Some (omega arith)

-- A midnight prints as one.
pub midnight_printed : (t : ℕ) → t % day ≡ 0 → drop 10 (print_date t) ≡ bytes "T00:00:00.000Z"
unfolding print_date date_text
midnight_printed t e = rw e
