-- Years: the closed formula of their first days agrees with the leap rule, and the year of a day is the right one.
use Prim.Native.Nat.{ℕ, zero, suc, ◌+◌, ◌-◌, ◌*◌, ◌/◌, ◌%◌, ◌≤◌, ◌<◌}
use mathlib.Core.Path.{◌≡◌, refl, sym, ap, ◌∙◌, subst}
use mathlib.Core.Logic.{inl, inr}
use mathlib.Core.Bool.{Bool, true, false}
use native.Mathlib.Omega.{arith}
use native.Mathlib.Nat.{le_antisymm}
use lib.Dec.{ltb, leb, eqb}
use borrow.Author.Tests.{eqb-true, eqb-false, ltb-true, ltb-false, leb-true, leb-false}
use Rattle.buffers.specs.Choices.{pick}
use Rattle.buffers.specs.Ranges.{Within, Span}
use Rattle.buffers.proofs.Tests.{either}
use Rattle.calendar.specs.Calendar.{leap, year_length, years_length, year_start, guess_of, year_of}

pub year_most : (l : Bool) → year_length l ≤ 366
year_most true = omega arith
year_most false = omega arith

pub year_least : (l : Bool) → 365 ≤ year_length l
year_least true = omega arith
year_least false = omega arith

-- ## The closed formula

-- the days from 1970-01-01 to the first day of year y, by the leap years before it
abbrev pub closed_start : ℕ → ℕ
closed_start y = 365 * (y - 1970) + (y - 1) / 4 + (y - 1) / 400 - ((y - 1) / 100 + 477)

room : (y : ℕ) → 1970 ≤ y → (y - 1) / 100 + 477 ≤ 365 * (y - 1970) + (y - 1) / 4 + (y - 1) / 400
room y h = omega arith

-- a year's turn, over the counts of leap years before it (a, b, d) and with it (a', b', d')
turn : (y a b d a' b' d' l : ℕ) → 1970 ≤ y → b + 477 ≤ 365 * (y - 1970) + a + d → a' + d' + b + 365 ≡ a + d + b' + l
    → 365 * (y + 1 - 1970) + a' + d' - (b' + 477) ≡ 365 * (y - 1970) + a + d - (b + 477) + l
turn y a b d a' b' d' l h r e = omega arith

sums : (a b d a' b' d' l i j k : ℕ) → a' ≡ a + i → b' ≡ b + j → d' ≡ d + k → i + k + 365 ≡ j + l → a' + d' + b + 365 ≡ a + d + b' + l
sums a b d a' b' d' l i j k ea eb ed e = omega arith

closed_next : (y : ℕ) → 1970 ≤ y → closed_start (y + 1) ≡ closed_start y + year_length (leap y)
unfolding leap
closed_next y h = rw p (go (eqb (y % 4) 0) refl (eqb (y % 100) 0) refl (eqb (y % 400) 0) refl)
  where
    p : y + 1 - 1 ≡ y
    p = omega arith

    by : (l i j k : ℕ) → y / 4 ≡ (y - 1) / 4 + i → y / 100 ≡ (y - 1) / 100 + j → y / 400 ≡ (y - 1) / 400 + k → i + k + 365 ≡ j + l
        → 365 * (y + 1 - 1970) + y / 4 + y / 400 - (y / 100 + 477) ≡ closed_start y + l
    by l i j k ea eb ed e = turn y _ _ _ _ _ _ l h (room y h) (sums _ _ _ _ _ _ l i j k ea eb ed e)

    go : (a : Bool) → eqb (y % 4) 0 ≡ a → (b : Bool) → eqb (y % 100) 0 ≡ b → (d : Bool) → eqb (y % 400) 0 ≡ d
        → 365 * (y + 1 - 1970) + y / 4 + y / 400 - (y / 100 + 477) ≡ closed_start y + year_length (pick a (pick b d true) false)
    go true ea true eb true ed = by 366 1 1 1 (omega (arith, eqb-true (y % 4) 0 ea)) (omega (arith, eqb-true (y % 100) 0 eb)) (omega (arith, eqb-true (y % 400) 0 ed)) refl
    go true ea true eb false ed = by 365 1 1 0 (omega (arith, eqb-true (y % 4) 0 ea)) (omega (arith, eqb-true (y % 100) 0 eb)) (omega (arith, eqb-false (y % 400) 0 ed)) refl
    go true ea false eb true ed = absurd (eqb-false (y % 100) 0 eb (omega (arith, eqb-true (y % 400) 0 ed)))
    go true ea false eb false ed = by 366 1 0 0 (omega (arith, eqb-true (y % 4) 0 ea)) (omega (arith, eqb-false (y % 100) 0 eb)) (omega (arith, eqb-false (y % 400) 0 ed)) refl
    go false ea true eb d ed = absurd (eqb-false (y % 4) 0 ea (omega (arith, eqb-true (y % 100) 0 eb)))
    go false ea false eb true ed = absurd (eqb-false (y % 4) 0 ea (omega (arith, eqb-true (y % 400) 0 ed)))
    go false ea false eb false ed = by 365 0 0 0 (omega (arith, eqb-false (y % 4) 0 ea)) (omega (arith, eqb-false (y % 100) 0 eb)) (omega (arith, eqb-false (y % 400) 0 ed)) refl

years_closed : (n : ℕ) → years_length n ≡ closed_start (1970 + n)
unfolding years_length
years_closed zero = refl
years_closed (suc n) =
    let q : 1970 + suc n ≡ 1970 + n + 1 = omega arith in
    ap (λ (k : ℕ). k + year_length (leap (1970 + n))) (years_closed n) ∙ sym (closed_next (1970 + n) (omega arith)) ∙ ap closed_start (sym q)

-- The closed formula counts the days that the leap rule gives.
pub year_start_closed : (y : ℕ) → 1970 ≤ y → year_start y ≡ closed_start y
year_start_closed y h =
    let q : 1970 + (y - 1970) ≡ y = omega arith in
    years_closed (y - 1970) ∙ ap closed_start q

-- The next year starts a year's length later.
pub year_next : (y : ℕ) → 1970 ≤ y → year_start (y + 1) ≡ year_start y + year_length (leap y)
year_next y h = rw (year_start_closed y h, year_start_closed (y + 1) (omega arith)) (closed_next y h)

pub year_start_is : (y : ℕ) → Span 1970 y 46500 → Within (closed_start y) (year_start y) 16264249
year_start_is y s = record { is = sym (year_start_closed y s.from); most = omega arith }

-- A later year starts no earlier,
pub years_rise : (y k : ℕ) → 1970 ≤ y → year_start y ≤ year_start (y + k)
years_rise y zero h = let q : y + 0 ≡ y = omega arith in rw q (omega arith)
years_rise y (suc k) h = let q : y + suc k ≡ y + k + 1 = omega arith in rw q (omega (arith, year_next (y + k) (omega arith), years_rise y k h))

-- and none before the next.
pub year_rises : (y z : ℕ) → 1970 ≤ y → y < z → year_start (y + 1) ≤ year_start z
year_rises y z h k = let q : y + 1 + (z - (y + 1)) ≡ z = omega arith in subst (λ (v : ℕ). year_start (y + 1) ≤ year_start v) q (years_rise (y + 1) (z - (y + 1)) (omega arith))

-- ## The year of a day

-- a year starts at most 334 days before as many mean Julian years
closed_low : (y : ℕ) → 1970 ≤ y → y ≤ 46501 → 1461 * (y - 1970) ≤ 4 * closed_start y + 1336
closed_low y h k = omega arith

guess_low : (n : ℕ) → year_start (guess_of n) ≤ n
unfolding guess_of
guess_low n = rw (year_start_closed (guess_of n) (omega arith)) (omega arith)

guess_high : (n : ℕ) → n ≤ 16264248 → n < year_start (guess_of n + 1 + 1)
unfolding guess_of
guess_high n h = rw (year_start_closed (guess_of n + 1 + 1) (omega arith)) (omega (arith, closed_low (guess_of n + 1 + 1) (omega arith) (omega arith)))

-- day n lies in year y
pub record YearIs (n y : ℕ) : Type 0 where
  pub from : 1970 ≤ y
  pub low : year_start y ≤ n
  pub high : n < year_start (y + 1)

-- For every day up to the end of 46499.
pub year_is : (n : ℕ) → n ≤ 16264248 → YearIs n (year_of n)
unfolding year_of guess_of
year_is n h =
    elim (either (ltb n (year_start (guess_of n + 1)))) [
      | inl e ↦ rw e (record { from = omega arith; low = guess_low n; high = ltb-true _ _ e })
      | inr e ↦ rw e (record { from = omega arith; low = ltb-false n (year_start (guess_of n + 1)) e; high = guess_high n h })
    ]

pub year_from : (n : ℕ) → 1970 ≤ year_of n
unfolding year_of guess_of
year_from n = elim (either (ltb n (year_start (guess_of n + 1)))) [ inl e ↦ rw e (omega arith) | inr e ↦ rw e (omega arith) ]

-- A day lies in one year.
pub year_once : (n y z : ℕ) → YearIs n y → YearIs n z → y ≡ z
year_once n y z p q = le_antisymm (no_later y z p q) (no_later z y q p)
  where
    no_later : (a b : ℕ) → YearIs n a → YearIs n b → a ≤ b
    no_later a b p q = elim (either (leb a b)) [ inl e ↦ leb-true a b e | inr e ↦ absurd (omega (arith, year_rises b a q.from (leb-false a b e), p.low, q.high)) ]

-- ## The ends of years

-- Only the first year starts on day 0.
pub year_some : (y : ℕ) → 1970 < y → 1 ≤ year_start y
year_some y h = rw (year_start_closed y (omega arith)) (omega arith)

-- No year up to 46499, in which 36500 years from 9999 on end, ends after its last day,
pub furthest_end : (y : ℕ) → 1970 ≤ y → y ≤ 46499 → year_start (y + 1) ≤ 16264249
furthest_end y h k = rw (year_start_closed (y + 1) (omega arith)) (omega arith)

-- none up to 9999 after the last day,
pub year_end : (y : ℕ) → 1970 ≤ y → y ≤ 9999 → year_start (y + 1) ≤ 2932897
year_end y h k = rw (year_start_closed (y + 1) (omega arith)) (omega arith)

-- and none above 9999 starts before its end.
pub year_past : (y : ℕ) → 9999 < y → 2932897 ≤ year_start y
year_past y h = rw (year_start_closed y (omega arith)) (omega arith)

-- The last day and those before it lie in years up to 9999.
pub year_by_9999 : (n : ℕ) → n ≤ 2932896 → year_of n ≤ 9999
year_by_9999 n h = elim (either (leb (year_of n) 9999)) [ inl e ↦ leb-true _ _ e | inr e ↦ absurd (omega (arith, year_past (year_of n) (leb-false _ _ e), (year_is n (omega arith)).low)) ]
