-- From an action's own judgement to that of any action.
use Rattle.model.specs.declared.Fate.{Fate}
use Rattle.std.specs.Prelude.{Result}
use Rattle.model.specs.declared.Refusal.{Refusal}
use Rattle.judge.specs.declared.Plan.{Plan}
use Prim.Native.Nat.{ℕ}
use mathlib.Core.Path.{◌≡◌, refl}
use mathlib.Core.Bool.{Bool, true}
use mathlib.Core.List.{List}
use Rattle.text.specs.declared.Place.{Place}
use Rattle.text.specs.Fields.{part_of}
use Rattle.text.specs.Keys.{is_key}
use Rattle.model.specs.Settings.{Rule}
use Rattle.model.specs.Requests as model
use Rattle.model.specs.Retries.{meant}
use Rattle.table.specs.Contents.{Contents}
use Rattle.settings.specs.declared.State.{State}
use Rattle.request.specs.declared.Name.{Name}
use Rattle.request.specs.declared.Action.{Action}
use Rattle.request.specs.declared.Action.TheVariants as action
use Rattle.fields.specs.declared.Retention.{Retention}
use Rattle.fields.specs.declared.Terms.{Terms}
use Rattle.fields.specs.Meaning.{Inside}
use Rattle.request.specs.Meaning.{action_means, ActionInside}
use Rattle.judge.specs.Premises.{Asked, JudgesBy, JudgesOn}

-- ## What is asked

pub asked_as : (s : State) (table : Contents) (line : List ℕ) (now : ℕ) (v u : Action) (w : model.Verb) → v ≡ u → Asked s table now (action_means line v)
    → action_means line u ≡ w → Asked s table now w
asked_as s table line now v u w e asked q = rw (e, q) at asked

pub marker_key : (s : State) (table : Contents) (line : List ℕ) (now : ℕ) (v : Action) (k : Place) (y : Bool) → v ≡ action.AddMarker k y → Asked s table now (action_means line v)
    → is_key (part_of line k) ≡ true
unfolding model.in_range
marker_key s table line now v k y e asked = (rw e at asked).in_ranges

module _ (line : List ℕ) (v : Action) (inside : ActionInside line v) where
  pub put_inside : (k : Place) (body size : ℕ) (t : Terms) → v ≡ action.Put k body size t → Inside line k
  put_inside k body size t e = rw e at inside

  pub copy_source : (n : Name) (k : Place) (t : Terms) → v ≡ action.Copy n k t → Inside line n.key
  copy_source n k t e = (rw e at inside).0

  pub copy_target : (n : Name) (k : Place) (t : Terms) → v ≡ action.Copy n k t → Inside line k
  copy_target n k t e = (rw e at inside).1

  pub retain_inside : (n : Name) (r : Retention) (y : Bool) → v ≡ action.Retain n r y → Inside line n.key
  retain_inside n r y e = rw e at inside

  pub hold_inside : (n : Name) (on : Bool) → v ≡ action.SetHold n on → Inside line n.key
  hold_inside n on e = rw e at inside

  pub marker_inside : (k : Place) (y : Bool) → v ≡ action.AddMarker k y → Inside line k
  marker_inside k y e = rw e at inside

  pub delete_inside : (k : Place) (n : ℕ) (y : Bool) → v ≡ action.DeleteVersion k n y → Inside line k
  delete_inside k n y e = rw e at inside

-- ## The verdict

module _ (s : State) (table : Contents) (line : List ℕ) (now : ℕ) (who : model.Rights) (rules : List Rule) (fates : List Fate) (v : Action) (r : Result Plan Refusal) where
  pub judged_as : (u : Action) → v ≡ u → JudgesOn s table line now (meant table.rows (action_means line u)) r → JudgesBy s table line now who rules fates (meant table.rows (action_means line v)) r
  judged_as u e h = rw e (h who rules fates)

  pub judged_always : (u : Action) → v ≡ u → ((t : ℕ) → JudgesOn s table line t (meant table.rows (action_means line u)) r) → JudgesBy s table line now who rules fates (meant table.rows (action_means line v)) r
  judged_always u e h = rw e (h now who rules fates)

  pub judged_either : (k : Place) (y : Bool) → v ≡ action.AddMarker k y → ((z : Bool) → JudgesOn s table line now (model.AddMarker (part_of line k) z) r)
      → JudgesBy s table line now who rules fates (meant table.rows (action_means line v)) r
  judged_either k y e h = rw e (h y who rules fates)

pub ruleset action_ways = (
  refl,
  asked_as,
  marker_key,
  put_inside,
  copy_source,
  copy_target,
  retain_inside,
  hold_inside,
  marker_inside,
  delete_inside,
  judged_as,
  judged_always,
  judged_either,
)
