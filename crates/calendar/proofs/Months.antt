-- Months: their days by the twelve-entry table, and the month of a day is the right one.
use Prim.Native.Nat.{ℕ, zero, suc, ◌+◌, ◌-◌, ◌/◌, ◌%◌, ◌≤◌, ◌<◌, zero-le}
use mathlib.Core.Path.{◌≡◌, refl}
use mathlib.Core.Bool.{Bool, true, false, ◌&&◌, ◌||◌}
use mathlib.Core.List.{List, [], ◌∷◌}
use native.Mathlib.Omega.{arith}
use lib.ListN.{get_or}
use mir.Val.{Fits}
use mir.Syntax.{w64}
use lib.Dec.{leb, ltb, eqb}
use borrow.Author.Tests.{leb-true, ltb-true, eqb-true, le-ltb, ne_eqb}
use Rattle.buffers.specs.Lists.{all}
use Rattle.buffers.specs.Ranges.{Within, Span}
use Rattle.buffers.proofs.Tests.{and_l, and_r}
use Rattle.calendar.specs.Calendar.{year_length, month_start, month_length, month_of}
use Rattle.calendar.specs.Periods.{day_in}
use Rattle.calendar.proofs.Tables.{upto, upto_at}
use Rattle.calendar.proofs.Years.{year_least}

-- ## The table

-- no month starts after more days than December
abbrev low : List ℕ → Bool
low xs = all (λ x. leb x 334) xs

entry_most : (xs : List ℕ) (i : ℕ) → low xs ≡ true → get_or xs i 0 ≤ 334
entry_most [] i e = zero-le
entry_most (x ∷ xs) zero e = leb-true x 334 (and_l (leb x 334) _ e)
entry_most (x ∷ xs) (suc i) e = entry_most xs i (and_r (leb x 334) _ e)

module _ (xs : List ℕ) (i : ℕ) (e : low xs ≡ true) where
  pub entry_0 : get_or xs i 0 ≤ 335
  entry_0 = omega (arith, entry_most xs i e)

  pub entry_1 : get_or xs i 0 + 1 ≤ 335
  entry_1 = omega (arith, entry_most xs i e)

  pub entry_wide : Fits w64 (get_or xs i 0)
  entry_wide = omega (arith, entry_most xs i e)

  pub entry_fits : Fits w64 (get_or xs i 0 + 1)
  entry_fits = omega (arith, entry_most xs i e)

pub ruleset entries = (entry_0, entry_1, entry_wide, entry_fits)

-- ## The days of a month

pub february_fits : (l : Bool) (y : ℕ) → Within y (year_length l) 366 → 337 ≤ y
february_fits l y e = omega (arith, year_least l)

pub february : (l : Bool) (m y : ℕ) → Within y (year_length l) 366 → m ≡ 2 → y - 337 ≡ month_length l m
unfolding month_start month_length
february true m y e t = rw (t, e.is)
february false m y e t = rw (t, e.is)

-- a month but February has 30 days, the odd ones to July and the even ones from August on have one more
abbrev other : Bool → ℕ → Bool
other l m = ltb m 1 || (eqb m 2 || eqb (30 + (m + m / 8) % 2) (month_length l m))

every_other : (l : Bool) (m : ℕ) → m ≤ 12 → other l m ≡ true
unfolding month_start month_length
every_other true m h = upto_at 13 (other true) refl m (omega arith)
every_other false m h = upto_at 13 (other false) refl m (omega arith)

pub other_month : (l : Bool) (m : ℕ) → Span 1 m 12 → (m ≡ 2 → ⊥) → 30 + (m + m / 8) % 2 ≡ month_length l m
other_month l m s n = eqb-true _ _ (simp (le-ltb m 1 s.from, ne_eqb m 2 n) at (every_other l m s.to))

pub ruleset lengths = (february_fits, february, other_month)

pub month_31 : (l : Bool) (m : ℕ) → m ≤ 12 → month_length l m ≤ 31
unfolding month_start month_length
month_31 true m h = leb-true _ _ (upto_at 13 (λ k. leb (month_length true k) 31) refl m (omega arith))
month_31 false m h = leb-true _ _ (upto_at 13 (λ k. leb (month_length false k) 31) refl m (omega arith))

-- A month ends within its year.
pub month_in_year : (l : Bool) (m : ℕ) → m ≤ 12 → month_start l m + month_length l m ≤ year_length l
unfolding month_start month_length
month_in_year true m h = leb-true _ _ (upto_at 13 (λ k. leb (month_start true k + month_length true k) 366) refl m (omega arith))
month_in_year false m h = leb-true _ _ (upto_at 13 (λ k. leb (month_start false k + month_length false k) 365) refl m (omega arith))

-- ## The month of a day

-- m is a month and the year's day n lies in it
abbrev in_month : Bool → ℕ → ℕ → Bool
in_month l n m = leb 1 m && (leb m 12 && (leb (month_start l m) n && ltb n (month_start l m + month_length l m)))

pub record MonthIs (l : Bool) (n m : ℕ) : Type 0 where
  pub from : 1 ≤ m
  pub to : m ≤ 12
  pub low : month_start l m ≤ n
  pub high : n < month_start l m + month_length l m

in_month_lem : (l : Bool) (n m : ℕ) → in_month l n m ≡ true → MonthIs l n m
in_month_lem l n m t =
    let a = and_r (leb 1 m) _ t in
    let b = and_r (leb m 12) _ a in
    record {
      from = leb-true 1 m (and_l (leb 1 m) _ t);
      to = leb-true m 12 (and_l (leb m 12) _ a);
      low = leb-true (month_start l m) n (and_l (leb (month_start l m) n) _ b);
      high = ltb-true n (month_start l m + month_length l m) (and_r (leb (month_start l m) n) _ b);
    }

-- Both kinds of year, day by day.
pub month_is : (l : Bool) (n : ℕ) → n < year_length l → MonthIs l n (month_of l n)
unfolding month_of month_start month_length
month_is true n h = in_month_lem true n (month_of true n) (upto_at 366 (λ k. in_month true k (month_of true k)) refl n h)
month_is false n h = in_month_lem false n (month_of false n) (upto_at 365 (λ k. in_month false k (month_of false k)) refl n h)

-- ## The days of every month, one by one

module _ (f : ℕ → ℕ → Bool) (t : upto 13 (λ m. upto 32 (λ d. f m d)) ≡ true) where
  -- What passes at each passes at a day of a month.
  every_day : (m d : ℕ) → m ≤ 12 → d ≤ 31 → f m d ≡ true
  every_day m d h k = upto_at 32 (λ d. f m d) (upto_at 13 (λ m. upto 32 (λ d. f m d)) t m (omega arith)) d (omega arith)

-- a day of a month has that month again, counted from the year's first day
abbrev again : Bool → ℕ → ℕ → Bool
again l m d = ltb m 1 || (ltb d 1 || (ltb (month_length l m) d || eqb (month_of l (month_start l m + (d - 1))) m))

every_again : (l : Bool) (m d : ℕ) → m ≤ 12 → d ≤ 31 → again l m d ≡ true
unfolding month_of month_start month_length
every_again true = every_day (again true) refl
every_again false = every_day (again false) refl

pub month_again : (l : Bool) (m d : ℕ) → 1 ≤ m → m ≤ 12 → 1 ≤ d → d ≤ month_length l m → month_of l (month_start l m + (d - 1)) ≡ m
month_again l m d f h o k = eqb-true _ m (simp (le-ltb m 1 f, le-ltb d 1 o, le-ltb (month_length l m) d k) at (every_again l m d h (omega (arith, month_31 l m h))))

-- a day of a month is one in another year too
abbrev kept : Bool → Bool → ℕ → ℕ → Bool
kept l k m d = ltb (month_length l m) d || leb (day_in k m d) (month_length k m)

every_kept : (l k : Bool) (m d : ℕ) → m ≤ 12 → d ≤ 31 → kept l k m d ≡ true
unfolding month_start month_length
every_kept true true = every_day (kept true true) refl
every_kept true false = every_day (kept true false) refl
every_kept false true = every_day (kept false true) refl
every_kept false false = every_day (kept false false) refl

pub day_kept : (l k : Bool) (m d : ℕ) → m ≤ 12 → d ≤ month_length l m → day_in k m d ≤ month_length k m
day_kept l k m d h f = leb-true _ _ (simp (le-ltb (month_length l m) d f) at (every_kept l k m d h (omega (arith, month_31 l m h))))
