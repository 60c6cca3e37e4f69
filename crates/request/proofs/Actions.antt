-- An action sets nothing, asks for no page and compares no prefix.
use Prim.Native.Nat.{ℕ}
use mathlib.Core.Path.{◌≡◌, refl}
use mathlib.Core.List.{List}
use Rattle.std.specs.Prelude.{None}
use Rattle.model.specs.Settings.{Bucket}
use Rattle.model.specs.Requests.{page_of, setting_of}
use Rattle.model.specs.Comparisons.{comparisons_by}
use Rattle.request.specs.declared.Action.{Action}
use Rattle.request.specs.declared.Action.TheVariants.{Put, Copy, Retain, SetHold, AddMarker, DeleteVersion}
use Rattle.request.specs.Meaning.{action_means}

pub action_unset : (line : List ℕ) (a : Action) → setting_of (action_means line a) ≡ None
action_unset line (Put k body size t) = refl
action_unset line (Copy n k t) = refl
action_unset line (Retain n r y) = refl
action_unset line (SetHold n on) = refl
action_unset line (AddMarker k y) = refl
action_unset line (DeleteVersion k n y) = refl

pub action_unpaged : (line : List ℕ) (a : Action) → page_of (action_means line a) ≡ None
action_unpaged line (Put k body size t) = refl
action_unpaged line (Copy n k t) = refl
action_unpaged line (Retain n r y) = refl
action_unpaged line (SetHold n on) = refl
action_unpaged line (AddMarker k y) = refl
action_unpaged line (DeleteVersion k n y) = refl

pub action_uncounted : (line : List ℕ) (a : Action) (b : Bucket) → comparisons_by b (action_means line a) ≡ 0
unfolding comparisons_by
action_uncounted line (Put k body size t) b = refl
action_uncounted line (Copy n k t) b = refl
action_uncounted line (Retain n r y) b = refl
action_uncounted line (SetHold n on) b = refl
action_uncounted line (AddMarker k y) b = refl
action_uncounted line (DeleteVersion k n y) b = refl
