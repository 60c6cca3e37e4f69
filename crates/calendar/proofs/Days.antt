-- Days: the date of a day is a valid one, and its days are the day again.
use Prim.Native.Nat.{ℕ, ◌+◌, ◌-◌, ◌≤◌, ◌<◌}
use mathlib.Core.Path.{◌≡◌, refl, sym, ◌∙◌}
use mathlib.Core.Bool.{Bool, true, false, false≢true}
use native.Mathlib.Omega.{arith}
use mir.Val.{Fits}
use mir.Syntax.{w64}
use lib.Dec.{leb}
use borrow.Author.Tests.{le-ltb, le-leb, ltb-false, leb-true}
use Rattle.buffers.specs.Choices.{pick}
use Rattle.buffers.specs.Ranges.{Within, Span}
use Rattle.calendar.specs.declared.Civil.{Civil}
use Rattle.calendar.specs.Calendar.{Bounded, leap, year_length, year_start, month_start, month_length, valid_day, days_of, year_of, month_of, date_in, civil_of}
use Rattle.calendar.proofs.Years.{year_most, year_next, YearIs, year_is, year_from, year_once, furthest_end, year_end, year_by_9999}
use Rattle.calendar.proofs.Months.{month_31, month_in_year, MonthIs, month_is, month_again}

-- ## Valid days

-- a test that must fail, and what is left
pick_false : (a b : Bool) → pick a false b ≡ true → (a ≡ false) × (b ≡ true)
pick_false true b e = absurd (false≢true e)
pick_false false b e = (refl, e)

-- a valid day's tests, taken apart
pub record Valid (c : Civil) : Type 0 where
  pub bounds : Bounded c
  pub fits : c.day ≤ month_length (leap c.year) c.month

pub valid_is : (c : Civil) → valid_day c ≡ true → Valid c
unfolding valid_day
valid_is c e =
    let a = pick_false _ _ e in
    let b = pick_false _ _ a.1 in
    let d = pick_false _ _ b.1 in
    let f = pick_false _ _ d.1 in
    let g = pick_false _ _ f.1 in
    let l : c.month ≤ 12 = ltb-false _ _ f.0 in
    let fits : c.day ≤ month_length (leap c.year) c.month = leb-true _ _ g.1 in
    record {
      bounds =
          record {
            from = ltb-false _ _ a.0;
            to = ltb-false _ _ b.0;
            first = ltb-false _ _ d.0;
            last = l;
            one = ltb-false _ _ g.0;
            most = omega (arith, month_31 (leap c.year) c.month l);
          };
      fits = fits;
    }

pub valid_bounds : (c : Civil) (r : Bool) → r ≡ valid_day c → r ≡ true → Bounded c
valid_bounds c r e t = (valid_is c (sym e ∙ t)).bounds

pub valid_last : (l : Bool) (y m d r : ℕ) → l ≡ leap y → r ≡ month_length l m → leb d r ≡ leb d (month_length (leap y) m)
valid_last l y m d r el er = cc

pub days_is : (c : Civil) (l : Bool) (s y : ℕ) → Bounded c → l ≡ leap c.year → Within s (month_start l c.month) 335 → Within y (year_start c.year) 16264249
    → Within (y + s + (c.day - 1)) (days_of c) 2933262
unfolding days_of
days_is c l s y d el es ey = record { is = simp (es.is, el, ey.is); most = omega (arith, year_next c.year d.from, year_end c.year d.from d.to) }

-- Each valid day is one of the days.
pub days_most : (c : Civil) → valid_day c ≡ true → days_of c ≤ 2932896
unfolding days_of
days_most c v =
    let t = valid_is c v in
    let b = t.bounds in
    omega (
      arith,
      t.fits,
      month_in_year (leap c.year) c.month b.last,
      year_next c.year b.from,
      year_end c.year b.from b.to,
    )

-- ## The date of a day

pub in_year : (n : ℕ) → n ≤ 16264248 → n - year_start (year_of n) < year_length (leap (year_of n))
in_year n h = let y = year_is n h in omega (arith, year_next (year_of n) y.from, y.low, y.high)

pub civil_valid : (n : ℕ) → n ≤ 2932896 → valid_day (civil_of n) ≡ true
unfolding valid_day civil_of date_in
civil_valid n h = valid (year_of n) (n - year_start (year_of n)) (year_from n) (year_by_9999 n h) (in_year n (omega arith))
  where
    valid : (y k : ℕ) → 1970 ≤ y → y ≤ 9999 → k < year_length (leap y) → valid_day (date_in y k) ≡ true
    valid y k from to lt =
        let m = month_is (leap y) k lt in
        simp (
          le-ltb y 1970 from,
          le-ltb 9999 y to,
          le-ltb (month_of (leap y) k) 1 m.from,
          le-ltb 12 (month_of (leap y) k) m.to,
          le-ltb (k - month_start (leap y) (month_of (leap y) k) + 1) 1 (omega arith),
        )
        (le-leb (k - month_start (leap y) (month_of (leap y) k) + 1) (month_length (leap y) (month_of (leap y) k)) (omega (arith, m.low, m.high)))

pub civil_days : (n : ℕ) → n ≤ 16264248 → days_of (civil_of n) ≡ n
unfolding days_of civil_of date_in
civil_days n h =
    let y = year_is n h in
    let m = month_is (leap (year_of n)) (n - year_start (year_of n)) (in_year n h) in
    omega (arith, y.low, m.low)

-- a date that its year has, up to the last year in which a period may end, were its largest count, 36500, one of years
pub record IsDate (c : Civil) : Type 0 where
  pub from : 1970 ≤ c.year
  pub to : c.year ≤ 46499
  pub first : 1 ≤ c.month
  pub last : c.month ≤ 12
  pub one : 1 ≤ c.day
  pub fits : c.day ≤ month_length (leap c.year) c.month

pub civil_is_date : (n : ℕ) → n ≤ 2932896 → IsDate (civil_of n)
civil_is_date n h =
    let v = valid_is (civil_of n) (civil_valid n h) in
    let b = v.bounds in
    record { from = b.from; to = omega (arith, b.to); first = b.first; last = b.last; one = b.one; fits = v.fits }

-- It is the date of its day.
pub days_civil : (c : Civil) → IsDate c → civil_of (days_of c) ≡ c
unfolding days_of civil_of date_in
days_civil c d =
    let y = c.year in
    let l = leap y in
    let k = month_start l c.month + (c.day - 1) in
    let ends = month_in_year l c.month d.last in
    let within : YearIs (days_of c) y = record { from = d.from; low = omega arith; high = omega (arith, year_next y d.from, ends, d.fits) } in
    let there : year_of (days_of c) ≡ y = year_once (days_of c) _ y (year_is (days_of c) (omega (arith, within.high, furthest_end y d.from d.to))) within in
    let since : days_of c - year_start y ≡ k = omega arith in
    let in_day : k - month_start l c.month + 1 ≡ c.day = omega arith in
    rw (there, since, month_again l c.month c.day d.first d.last d.one d.fits, in_day)

-- ## `date_in`

pub date_days : (y k : ℕ) → k < year_length (leap y) → k < 366
date_days y k h = omega (arith, year_most (leap y))

date_month : (y k : ℕ) (l : Bool) (m : ℕ) → l ≡ leap y → m ≡ month_of l k → k < year_length (leap y) → MonthIs l k m
date_month y k l m el em h = rw em (month_is l k (rw el h))

pub date_span : (y k : ℕ) (l : Bool) (m : ℕ) → l ≡ leap y → m ≡ month_of l k → k < year_length (leap y) → Span 1 m 12
date_span y k l m el em h = let d = date_month y k l m el em h in record { from = d.from; to = d.to }

pub date_low : (y k : ℕ) (l : Bool) (m s : ℕ) → l ≡ leap y → m ≡ month_of l k → k < year_length (leap y) → Within s (month_start l m) 335 → s ≤ k
date_low y k l m s el em h es = rw es.is (date_month y k l m el em h).low

pub date_fits : (y k s : ℕ) → k < year_length (leap y) → Fits w64 (k - s + 1)
date_fits y k s h = omega (arith, year_most (leap y))

pub date_is : (y k : ℕ) (l : Bool) (m s : ℕ) → l ≡ leap y → m ≡ month_of l k → Within s (month_start l m) 335
    → ◌≡◌ {A = Civil} (record { year = y; month = m; day = k - s + 1 }) (date_in y k)
unfolding date_in
date_is y k l m s el em es = simp (es.is, em, el)

pub ruleset dates_in = (date_days, date_span, date_low, date_fits, date_is)

-- ## `civil_from_days`

module _ (n y : ℕ) (ey : y ≡ year_of n) (h : n ≤ 2932896) where
  in_time : n ≤ 16264248
  in_time = omega arith

  pub civil_span : Span 1970 y 46500
  civil_span = omega (arith, year_from n, year_by_9999 n h)

  pub civil_low : (s : ℕ) → Within s (year_start y) 16264249 → s ≤ n
  civil_low s es = rw (es.is, ey) (year_is n in_time).low

  pub civil_in_year : (s : ℕ) → Within s (year_start y) 16264249 → n - s < year_length (leap y)
  civil_in_year s es = rw (es.is, ey) (in_year n in_time)

  pub civil_is : (s : ℕ) (r : Civil) → Within s (year_start y) 16264249 → r ≡ date_in y (n - s) → r ≡ civil_of n
  unfolding civil_of
  civil_is s r es er = er ∙ rw (es.is, ey)

  pub civil_bounds : (s : ℕ) (r : Civil) → Within s (year_start y) 16264249 → r ≡ date_in y (n - s) → Bounded r
  civil_bounds s r es er = rw (civil_is s r es er) (valid_is (civil_of n) (civil_valid n h)).bounds

pub ruleset civils = (civil_span, civil_low, civil_in_year, civil_is, civil_bounds)
