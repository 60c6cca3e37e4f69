-- Some years later, as it is printed.
use Prim.Native.Nat.{ℕ, ◌+◌, ◌/◌, ◌%◌, ◌≤◌}
use mathlib.Core.Path.{◌≡◌, sym, ◌∙◌, ap}
use mathlib.Core.List.{List, ◌++◌}
use Rattle.std.specs.Prelude.{Some}
use native.Mathlib.Omega.{arith}
use lib.ListN.{get_or, take, drop}
use Rattle.buffers.specs.Texts.{bytes}
use Rattle.calendar.specs.declared.Civil.{Civil}
use Rattle.calendar.specs.Calendar.{latest, day, civil_of}
use Rattle.calendar.specs.Periods.{YearsAfter, YearsEnd}
use Rattle.calendar.proofs.Days.{valid_is, civil_valid}
use Rattle.dates.specs.Reading.{four_digits}
use Rattle.dates.specs.Printing.{date_text, print_date, PrintedYearsAfter}
use Rattle.dates.proofs.RoundTrip.{year_back}

-- ## Two dates at the same time of day

module _ (years t : ℕ) (c d : Civil) (a : YearsAfter years c d) (hc : c.year ≤ 9999) (hd : d.year ≤ 9999) (month : c.month ≤ 12) (date : c.day ≤ 31) where
  abbrev from : List ℕ
  from = date_text c t

  abbrev to : List ℕ
  to = date_text d t

  year_of_lem : (y : ℕ) → four_digits to 0 ≡ Some y → d.year ≡ y
  year_of_lem y e = let q : Some d.year ≡ Some y = sym (year_back d t hd) ∙ e in let z : d.year ≡ y = cc in z

  printed_year : (y : ℕ) → four_digits from 0 ≡ Some y → four_digits to 0 ≡ Some (y + years)
  printed_year y e =
      let q : Some c.year ≡ Some y = sym (year_back c t hc) ∙ e in
      let z : c.year ≡ y = cc in
      year_back d t hd ∙ ap Some (a.year_is_later ∙ rw z)

  printed_rest : d.day ≡ c.day → drop 4 to ≡ drop 4 from
  unfolding date_text
  printed_rest e = rw (a.same_month, e)

  -- The text has 29 February exactly on that date.
  leap_text : c.month ≡ 2 → c.day ≡ 29 → take 6 (drop 4 from) ≡ bytes "-02-29"
  unfolding date_text
  leap_text em ed = rw (em, ed)

  text_month : take 6 (drop 4 from) ≡ bytes "-02-29" → c.month ≡ 2
  unfolding date_text
  text_month e =
      let tens : 48 + c.month / 10 % 10 ≡ 48 = ap (λ (s : List ℕ). get_or s 1 0) e in
      let ones : 48 + c.month % 10 ≡ 50 = ap (λ (s : List ℕ). get_or s 2 0) e in
      omega arith

  text_day : take 6 (drop 4 from) ≡ bytes "-02-29" → c.day ≡ 29
  unfolding date_text
  text_day e =
      let tens : 48 + c.day / 10 % 10 ≡ 50 = ap (λ (s : List ℕ). get_or s 4 0) e in
      let ones : 48 + c.day % 10 ≡ 57 = ap (λ (s : List ℕ). get_or s 5 0) e in
      omega arith

  printed_28 : c.month ≡ 2 → d.day ≡ 28 → drop 4 to ≡ bytes "-02-28" ++ drop 10 from
  unfolding date_text
  printed_28 em ed = rw (a.same_month, em, ed)

  pub printed_after : PrintedYearsAfter years from to
  printed_after =
      record {
        year_is_later = printed_year;
        same_rest = λ y e has. printed_rest (a.same_day (λ em ed. rw (year_of_lem y e) (has (leap_text em ed))));
        last_of_february = λ y e f l. printed_28 (text_month f) (a.last_of_february (text_month f) (text_day f) (rw (year_of_lem y e) l));
      }

-- For every instant whose years end by the last one.
pub years_printed : (years from end : ℕ) → from ≤ latest → end ≤ latest → YearsEnd years from end → PrintedYearsAfter years (print_date from) (print_date end)
unfolding print_date
years_printed years from end hf he e =
    let b = (valid_is (civil_of (from / day)) (civil_valid (from / day) (omega arith))).bounds in
    let d = (valid_is (civil_of (end / day)) (civil_valid (end / day) (omega arith))).bounds in
    rw e.same_time (printed_after years (from % day) (civil_of (from / day)) (civil_of (end / day)) e.on_date b.to d.to b.last b.most)
