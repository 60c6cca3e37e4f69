-- Laws of printing.
use Prim.Native.Nat.{ℕ, ◌+◌, ◌-◌, ◌*◌, ◌/◌, ◌%◌, ◌≤◌, ◌<◌}
use mathlib.Core.Path.{◌≡◌, refl, ap, ◌∙◌}
use mathlib.Core.Bool.{true}
use mathlib.Core.List.{List, [], ◌∷◌}
use native.Mathlib.Omega.{arith}
use native.Mathlib.Nat.{le_of_eq}
use lib.Dec.{eqb, leb}
use lib.ListN.{length, get_or}
use borrow.Author.Tests.{le-leb, eqb-true}
use Rattle.buffers.specs.Writes.{Wrote}
use Rattle.buffers.proofs.Writes.{wrote_as}
use Rattle.text.proofs.Joined.{visible}
use Rattle.calendar.specs.declared.Civil.{Civil}
use Rattle.calendar.specs.Calendar.{day, civil_of}
use Rattle.calendar.proofs.Tables.{upto_at}
use Rattle.dates.specs.Printing.{digit_pair, last_two, date_text, print_date}
use Rattle.std.specs.Int.{w16, to_le_bytes}
use Rattle.buffers.specs.Lists.{same}
use Rattle.buffers.proofs.Lists.{same_path}

pub printed_length : (t : ℕ) → length (print_date t) ≡ 24
unfolding print_date date_text
printed_length t = refl

-- The two digits of a number below 100: the word, and its two bytes.
pair_word : (n : ℕ) → n ≤ 99 → 12336 + 256 * n - 2559 * (n * 103 / 1024) ≡ digit_pair n
pair_word n h =
    let e : n * 103 / 1024 ≡ n / 10 = eqb-true _ _ (upto_at 100 (λ k. eqb (k * 103 / 1024) (k / 10)) refl n (omega arith)) in
    rw e (omega arith)

pair_bytes : (n : ℕ) → n ≤ 99 → to_le_bytes w16 (digit_pair n) ≡ last_two n
pair_bytes n h = same_path _ _ (upto_at 100 (λ k. same (to_le_bytes w16 (digit_pair k)) (last_two k)) refl n (omega arith))

pub pair_is : (n : ℕ) → n ≤ 99 → to_le_bytes w16 (12336 + 256 * n - 2559 * (n * 103 / 1024)) ≡ last_two n
pair_is n h = ap (to_le_bytes w16) (pair_word n h) ∙ pair_bytes n h

pub pair_room : (n : ℕ) → n ≤ 99 → 2559 * (n * 103 / 1024) ≤ 12336 + 256 * n
pair_room n h = omega arith

pub pair_fits : (n : ℕ) → n ≤ 99 → 12336 + 256 * n - 2559 * (n * 103 / 1024) < 65536
pair_fits n h = omega arith

pub ruleset pair_laws = (pair_is, pair_room, pair_fits)

-- A text by its pairs.
module _ (d : Civil) (t : ℕ) (c y m k h i s f : List ℕ)
    (ec : c ≡ last_two (d.year / 100)) (ey : y ≡ last_two (d.year % 100)) (em : m ≡ last_two d.month) (ek : k ≡ last_two d.day)
    (eh : h ≡ last_two (t / 1000 / 60 / 60)) (ei : i ≡ last_two (t / 1000 / 60 % 60)) (es : s ≡ last_two (t / 1000 % 60)) (ef : f ≡ last_two (t % 1000 / 10)) where
  pub text_by_pairs : get_or c 0 0 ∷ get_or c 1 0 ∷ get_or y 0 0 ∷ get_or y 1 0 ∷ 45 ∷ get_or m 0 0 ∷ get_or m 1 0 ∷ 45 ∷ get_or k 0 0 ∷ get_or k 1 0 ∷ 84
      ∷ get_or h 0 0 ∷ get_or h 1 0 ∷ 58 ∷ get_or i 0 0 ∷ get_or i 1 0 ∷ 58 ∷ get_or s 0 0 ∷ get_or s 1 0 ∷ 46 ∷ get_or f 0 0 ∷ get_or f 1 0 ∷ (48 + t % 1000 % 10) ∷ 90 ∷ [] ≡ date_text d t
  unfolding date_text
  text_by_pairs =
      let thousands : d.year / 100 / 10 ≡ d.year / 1000 = omega arith in
      let tens : d.year % 100 / 10 % 10 ≡ d.year / 10 % 10 = omega arith in
      let ones : d.year % 100 % 10 ≡ d.year % 10 = omega arith in
      let hundreds : t % 1000 / 10 / 10 ≡ t % 1000 / 100 = omega arith in
      rw (ec, ey, em, ek, eh, ei, es, ef, thousands, tens, ones, hundreds)

print_is : (t : ℕ) (d : Civil) (tx : List ℕ) → d ≡ civil_of (t / day) → tx ≡ date_text d (t % day) → tx ≡ print_date t
unfolding print_date
print_is t d tx ed et = et ∙ ap (λ (x : Civil). date_text x (t % day)) ed

pub printed : (t : ℕ) (d : Civil) (tx : List ℕ) (out exit : List ℕ) (at k r : ℕ) → d ≡ civil_of (t / day) → tx ≡ date_text d (t % day)
    → Wrote out at tx k exit r → Wrote out at (print_date t) 24 exit r
printed t d tx out exit at k r ed et w = wrote_as out at tx (print_date t) k 24 exit r w (print_is t d tx ed et) (le_of_eq (printed_length t))

digit_visible : (n : ℕ) → leb 33 (48 + n % 10) ≡ true
digit_visible n = le-leb 33 (48 + n % 10) (omega arith)

-- A printed date has no blank.
pub date_visible : (t : ℕ) → visible (print_date t) ≡ true
unfolding print_date date_text
date_visible t = simp digit_visible
