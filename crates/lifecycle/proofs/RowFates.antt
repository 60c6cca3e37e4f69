-- A row's fate by its key's least days is the model's, and the ways through the code that tells it.
use Rattle.std.proofs.Common.{◌≡◌, ℕ, Bool, true, false, not, ◌&&◌, List, refl}
use Rattle.buffers.specs.Choices.{pick}
use Rattle.calendar.specs.Periods.{day_start}
use Rattle.model.specs.Rows.{Row, is_data}
use Rattle.model.specs.Settings as model
use Rattle.model.specs.Locks.{locked}
use Rattle.model.specs.declared.Fate.{Fate}
use Rattle.model.specs.declared.Fate.TheVariants.{Stays, Goes, Gains}
use Rattle.model.specs.Sweep.{applying, current_fate, noncurrent_fate}
use Rattle.lifecycle.specs.Least.{limits_of}
use Rattle.lifecycle.specs.Days.{over}
use Rattle.lifecycle.specs.Judging.{current_by, noncurrent_by}
use Rattle.lifecycle.proofs.Days.{due_least, over_today}

-- ## A row's fate by the least days

both_picks : (a b : Bool) (x y : Fate) → pick a (pick b x y) y ≡ pick (a && b) x y
both_picks true b x y = refl
both_picks false b x y = refl

but_picks : (a b : Bool) (x y : Fate) → pick a (pick b y x) y ≡ pick (a && not b) x y
but_picks true true x y = refl
but_picks true false x y = refl
but_picks false b x y = refl

module _ (us : List model.Rule) (t m : ℕ) (e : m ≡ day_start t) where
  pub current_is : (x : Row) → current_by (limits_of us x.key).current m x ≡ current_fate (applying us x.key) t x
  unfolding current_by limits_of
  current_is x =
      rw (over_today (limits_of us x.key).current x.created t m e, due_least x.created t (λ u. u.current_days) (applying us x.key))
      (both_picks (is_data x) (over (limits_of us x.key).current x.created t) Gains Stays)

  pub noncurrent_is : (y x : Row) → noncurrent_by (limits_of us x.key).noncurrent y.created t m x ≡ noncurrent_fate (applying us x.key) t y x
  unfolding noncurrent_by limits_of
  noncurrent_is y x =
      rw (over_today (limits_of us x.key).noncurrent y.created t m e, due_least y.created t (λ u. u.noncurrent_days) (applying us x.key))
      (but_picks (over (limits_of us x.key).noncurrent y.created t) (locked t false x) Goes Stays)
