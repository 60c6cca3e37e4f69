-- Some years later: the date, the time of day, and the last instant.
use Prim.Native.Nat.{ℕ, ◌+◌, ◌-◌, ◌*◌, ◌/◌, ◌%◌, ◌≤◌, ◌<◌}
use mathlib.Core.Path.{◌≡◌, refl, sym, ◌∙◌, ap}
use mathlib.Core.Logic.{inl, inr}
use mathlib.Core.Bool.{Bool, true, false, true≢false, not, ◌&&◌}
use native.Mathlib.Omega.{arith}
use mir.Val.{Fits}
use mir.Syntax.{w64}
use lib.Dec.{eqb, ltb}
use borrow.Author.Tests.{eqb-true, eq-eqb, ltb-true, ltb-false, lt-ltb, le-ltb}
use Rattle.buffers.specs.Choices.{pick}
use Rattle.buffers.specs.Ranges.{Within, Span}
use Rattle.buffers.proofs.Tests.{either, and_l, and_r}
use Rattle.calendar.specs.declared.Civil.{Civil}
use Rattle.calendar.specs.Calendar.{latest, day, leap, year_length, year_start, month_start, days_of, year_of, month_of, date_in, civil_of}
use Rattle.calendar.specs.Periods.{day_in, same_date_in, years_later, turning_year, YearsAfter, YearsEnd}
use Rattle.calendar.proofs.Tables.{upto_at}
use Rattle.calendar.proofs.Years.{YearIs, year_is, year_from, year_by_9999, year_some, year_most, year_least, years_rise, year_rises, year_next, year_end, year_past}
use Rattle.calendar.proofs.Months.{month_in_year, day_kept}
use Rattle.calendar.proofs.Days.{in_year, civil_days, IsDate, civil_is_date, days_civil}

-- ## The same date in another year

day_some : (l : Bool) (m d : ℕ) → 1 ≤ d → 1 ≤ day_in l m d
day_some l m d h = elim (either (eqb m 2 && (eqb d 29 && not l))) [ inl e ↦ rw e (omega arith) | inr e ↦ rw e h ]

-- That year has it.
same_date_is : (c : Civil) (y : ℕ) → IsDate c → 1970 ≤ y → y ≤ 46499 → IsDate (same_date_in y c)
unfolding same_date_in
same_date_is c y d f t =
    record {
      from = f;
      to = t;
      first = d.first;
      last = d.last;
      one = day_some (leap y) c.month c.day d.one;
      fits = day_kept (leap c.year) (leap y) c.month c.day d.last d.fits;
    }

pub same_date_after : (c : Civil) (years : ℕ) → YearsAfter years c (same_date_in (c.year + years) c)
unfolding same_date_in
same_date_after c years =
    record {
      year_is_later = refl;
      same_month = refl;
      same_day = λ has. elim (either (eqb c.month 2 && (eqb c.day 29 && not (leap (c.year + years))))) [
        | inl e ↦
            let f = and_r (eqb c.month 2) _ e in
            let l : leap (c.year + years) ≡ true = has (eqb-true _ 2 (and_l _ _ e)) (eqb-true _ 29 (and_l _ _ f)) in
            let n : not (leap (c.year + years)) ≡ true = and_r (eqb c.day 29) _ f in
            let z : ◌≡◌ {A = Bool} true false = cc in
            absurd (true≢false z)
        | inr e ↦ rw e
      ];
      last_of_february = λ m d l. simp (eq-eqb _ _ m, eq-eqb _ _ d, l);
    }

-- ## The end

-- a date lies between the starts of its year and of the next
from_start : (c : Civil) → year_start c.year ≤ days_of c
unfolding days_of
from_start c = omega arith

before_next : (c : Civil) → IsDate c → days_of c < year_start (c.year + 1)
unfolding days_of
before_next c d = omega (arith, d.fits, month_in_year (leap c.year) c.month d.last, year_next c.year d.from)

-- the same date some years after day n
unfoldable date_later : ℕ → ℕ → Civil
date_later n years = same_date_in ((civil_of n).year + years) (civil_of n)

module _ (n years : ℕ) (h : n ≤ 2932896) (most : years ≤ 36500) where
  start : IsDate (civil_of n)
  start = civil_is_date n h

  start_to : (civil_of n).year ≤ 9999
  unfolding civil_of date_in
  start_to = year_by_9999 n h

  later_date : IsDate (date_later n years)
  unfolding date_later
  later_date = same_date_is (civil_of n) ((civil_of n).year + years) start (omega (arith, start.from)) (omega (arith, start_to))

  later_day : 1 ≤ years → n < days_of (date_later n years)
  unfolding date_later same_date_in
  later_day some =
      omega (
        arith,
        civil_days n (omega arith),
        before_next (civil_of n) start,
        year_rises (civil_of n).year ((civil_of n).year + years) start.from (omega arith),
        from_start (date_later n years),
      )

  -- The last day is passed exactly where the year is above 9999.
  past_last_lem : 9999 < (civil_of n).year + years → 2932896 < days_of (date_later n years)
  unfolding date_later same_date_in
  past_last_lem t = omega (arith, from_start (date_later n years), year_past ((civil_of n).year + years) t)

  by_last : (civil_of n).year + years ≤ 9999 → days_of (date_later n years) ≤ 2932896
  unfolding date_later same_date_in
  by_last t = omega (arith, before_next (date_later n years) later_date, year_end ((civil_of n).year + years) (omega (arith, start.from)) t)

module _ (from years : ℕ) (h : from ≤ latest) (most : years ≤ 36500) where
  abbrev n : ℕ
  n = from / day

  start_day : n ≤ 2932896
  start_day = omega arith

  end_day : years_later from years / day ≡ days_of (date_later n years)
  unfolding years_later date_later
  end_day = omega arith

  end_time : years_later from years % day ≡ from % day
  unfolding years_later
  end_time = omega arith

  end_date : civil_of (years_later from years / day) ≡ date_later n years
  end_date = ap civil_of end_day ∙ days_civil (date_later n years) (later_date n years start_day most)

  end_late : ltb latest (years_later from years) ≡ ltb 9999 ((civil_of n).year + years)
  end_late =
      let e = end_day in
      elim (either (ltb 9999 ((civil_of n).year + years))) [
        | inl t ↦ rw t (lt-ltb latest (years_later from years) (omega (arith, past_last_lem n years start_day most (ltb-true _ _ t))))
        | inr t ↦ rw t (le-ltb latest (years_later from years) (omega (arith, by_last n years start_day most (ltb-false _ _ t))))
      ]

  pub years_end : 1 ≤ years → YearsEnd years from (years_later from years)
  unfolding date_later
  years_end some =
      record {
        on_date = rw end_date (same_date_after (civil_of n) years);
        same_time = end_time;
        later = omega (arith, later_day n years start_day most some, end_day, end_time);
        is_too_late = end_late;
      }

-- For every instant, however large.
pub later_positive : (from years : ℕ) → 1 ≤ years → 1 ≤ years_later from years
unfolding years_later same_date_in days_of civil_of date_in
later_positive from years h = omega (arith, year_some (year_of (from / day) + years) (omega (arith, year_from (from / day))))

-- ## `turning_year` and `years_later`

-- the day of a year, counted from 0, on which the same date falls in a leap year (true) or a common year (false)
abbrev day_of_year : Bool → Bool → ℕ → ℕ
day_of_year l k n = let m = month_of l n in month_start k m + (day_in k m (n - month_start l m + 1) - 1)

-- Before 29 February it has as many days before it, from then on as many behind it.
same_distance : (l k : Bool) (n : ℕ) → n < year_length l → day_of_year l k n ≡ pick (ltb n 59) n (n + year_length k - year_length l)
unfolding month_of month_start
same_distance true true n h = eqb-true _ _ (upto_at 366 (λ n. eqb (day_of_year true true n) (pick (ltb n 59) n (n + 366 - 366))) refl n h)
same_distance true false n h = eqb-true _ _ (upto_at 366 (λ n. eqb (day_of_year true false n) (pick (ltb n 59) n (n + 365 - 366))) refl n h)
same_distance false true n h = eqb-true _ _ (upto_at 365 (λ n. eqb (day_of_year false true n) (pick (ltb n 59) n (n + 366 - 365))) refl n h)
same_distance false false n h = eqb-true _ _ (upto_at 365 (λ n. eqb (day_of_year false false n) (pick (ltb n 59) n (n + 365 - 365))) refl n h)

-- its days, by the day of its year
days_sum : (n years : ℕ) → days_of (date_later n years) ≡ year_start (year_of n + years) + day_of_year (leap (year_of n)) (leap (year_of n + years)) (n - year_start (year_of n))
unfolding days_of date_later same_date_in civil_of date_in
days_sum n years = omega arith

-- The first day of the turning year is as far from a date some years later.
module _ (n years : ℕ) (h : n ≤ 2932896) where
  abbrev y : ℕ
  y = year_of n

  abbrev k : ℕ
  k = n - year_start y

  within : YearIs n y
  within = year_is n (omega arith)

  turn_from : 1970 ≤ turning_year n
  unfolding turning_year
  turn_from = elim (either (ltb k 59)) [ inl t ↦ rw t within.from | inr t ↦ rw t (omega (arith, within.from)) ]

  days_are : days_of (date_later n years) ≡ year_start (y + years) + pick (ltb k 59) k (k + year_length (leap (y + years)) - year_length (leap y))
  days_are = days_sum n years ∙ ap (λ (d : ℕ). year_start (y + years) + d) (same_distance (leap y) (leap (y + years)) k (in_year n (omega arith)))

  as_far : days_of (date_later n years) + year_start (turning_year n) ≡ n + year_start (turning_year n + years)
  unfolding turning_year
  as_far =
      elim (either (ltb k 59)) [
        | inl t ↦
            let d : days_of (date_later n years) ≡ year_start (y + years) + k = days_are ∙ rw t in
            rw t (omega (arith, d, within.low))
        | inr t ↦
            let d : days_of (date_later n years) ≡ year_start (y + years) + (k + year_length (leap (y + years)) - year_length (leap y)) = days_are ∙ rw t in
            let q : y + 1 + years ≡ y + years + 1 = omega arith in
            let next : year_start (y + 1 + years) ≡ year_start (y + years) + year_length (leap (y + years)) = ap year_start q ∙ year_next (y + years) (omega (arith, within.from)) in
            rw t (omega (arith, d, next, within.low, within.high, year_next y within.from, year_most (leap y), year_least (leap (y + years)), ltb-false k 59 t))
      ]

-- `turning_year`
module _ (n r : ℕ) (e : r ≡ year_of n) (h : n ≤ 2932896) where
  r_most : r ≤ 9999
  r_most = rw e (year_by_9999 n h)

  pub turn_sum : Fits w64 (r + 1)
  turn_sum = omega (arith, r_most)

  pub own_turn : (s : ℕ) → Within s (year_start r) 16264249 → n - s < 59 → Within r (turning_year n) 10000
  unfolding turning_year
  own_turn s es k =
      let t : ltb (n - year_start (year_of n)) 59 ≡ true = rw (sym e, sym es.is) (lt-ltb (n - s) 59 k) in
      record { is = e ∙ rw t; most = omega (arith, r_most) }

  pub next_turn : (s : ℕ) → Within s (year_start r) 16264249 → 59 ≤ n - s → Within (r + 1) (turning_year n) 10000
  unfolding turning_year
  next_turn s es k =
      let t : ltb (n - year_start (year_of n)) 59 ≡ false = rw (sym e, sym es.is) (le-ltb (n - s) 59 k) in
      record { is = ap (λ (v : ℕ). v + 1) e ∙ rw t; most = omega (arith, r_most) }

pub ruleset turns = (turn_sum, own_turn, next_turn)

-- `years_later`
module _ (from years r : ℕ) (e : Within r (turning_year (from / day)) 10000) (h : from ≤ latest) (most : years ≤ 36500) where
  turn_1970 : 1970 ≤ r
  turn_1970 = rw e.is (turn_from (from / day) years (omega arith))

  pub turn_span : Span 1970 r 46500
  turn_span = omega (arith, turn_1970)

  pub later_span : Span 1970 (r + years) 46500
  later_span = omega (arith, turn_1970)

  module _ (s u : ℕ) (es : Within s (year_start r) 16264249) (eu : Within u (year_start (r + years)) 16264249) where
    pub later_low : s ≤ u
    later_low = omega (arith, es.is, eu.is, years_rise r years turn_1970)

    pub later_is : from + (u - s) * day ≡ years_later from years
    unfolding years_later date_later
    later_is =
        let far : days_of (date_later (from / day) years) + s ≡ from / day + u = rw (es.is, eu.is, e.is) (as_far (from / day) years (omega arith)) in
        omega (arith, far, later_low)

pub ruleset laters = (turn_span, later_span, later_low, later_is)
