-- Years end in the later year at the same month, day and time of day; days expire at the first midnight from their end on.
use Prim.Native.Nat.{ℕ, ◌+◌, ◌*◌, ◌%◌, ◌≤◌}
use mathlib.Core.Path.{◌≡◌}
use mathlib.Core.Logic.{inl, inr}
use native.Mathlib.Omega.{arith}
use lib.Dec.{eqb, leb}
use borrow.Author.Tests.{eqb-true, eqb-false}
use Rattle.buffers.proofs.Tests.{either, leb_same}
use Rattle.calendar.specs.Calendar.{latest, day}
use Rattle.calendar.specs.Periods.{YearsEnd, period_end, day_start, expires_at, FirstMidnight, MidnightBetween}
use Rattle.calendar.proofs.Later.{years_end, later_positive}

-- For every instant.
pub period_years : (from years : ℕ) → from ≤ latest → 1 ≤ years → years ≤ 36500 → YearsEnd years from (period_end from years 2)
unfolding period_end
period_years from years h some most = years_end from years h most some

-- No period ends at instant 0.
pub period_positive : (from count unit : ℕ) → 1 ≤ count → 1 ≤ period_end from count unit
unfolding period_end
period_positive from count unit h = elim (either (eqb unit 2)) [ inl e ↦ rw e (later_positive from count h) | inr e ↦ rw e (omega arith) ]

-- ## Expiry

-- For every instant and any number of days.
pub expires_at_midnight : (since days : ℕ) → FirstMidnight (since + days * day) (expires_at since days)
unfolding expires_at
expires_at_midnight since days =
    let end : ℕ = since + days * day in
    elim (either (eqb (end % day) 0)) [
      | inl e ↦ rw e (record { is_midnight = eqb-true (end % day) 0 e; not_earlier = omega arith; within_a_day = omega arith })
      | inr e ↦ rw e (record { is_midnight = omega arith; not_earlier = omega arith; within_a_day = omega (arith, eqb-false (end % day) 0 e) })
    ]

-- More days never expire earlier.
pub more_days : (since few more : ℕ) → few ≤ more → expires_at since few ≤ expires_at since more
more_days since few more h = omega (arith, expires_at_midnight since few, expires_at_midnight since more)

module _ (since days t : ℕ) where
  first : FirstMidnight (since + days * day) (expires_at since days)
  first = expires_at_midnight since days

  -- Days have expired exactly where a midnight has come since their end.
  pub expired_came : expires_at since days ≤ t → MidnightBetween (since + days * day) t
  expired_came h = record { at = expires_at since days; is_midnight = first.is_midnight; not_earlier = first.not_earlier; no_later = h }

  pub came_expired : MidnightBetween (since + days * day) t → expires_at since days ≤ t
  came_expired m = omega (arith, first, m)

  -- At a midnight the sum itself says whether they have.
  pub expired_at : t % day ≡ 0 → leb (since + days * day) t ≡ leb (expires_at since days) t
  expired_at e = leb_same (since + days * day) t (expires_at since days) t (λ h. omega (arith, first)) (λ h. omega (arith, first))

  -- What has expired, had at the midnight at which the day began.
  pub expired_today : leb (expires_at since days) (day_start t) ≡ leb (expires_at since days) t
  expired_today = leb_same (expires_at since days) (day_start t) (expires_at since days) t (λ h. omega (arith, first)) (λ h. omega (arith, first))

pub start_midnight : (t m : ℕ) → m ≡ day_start t → m % day ≡ 0
start_midnight t m e = omega arith
