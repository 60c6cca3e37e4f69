-- Refusal 5: the rights that the code asks for are those that the model needs.
use Prim.Native.Nat.{ℕ}
use mathlib.Core.Path.{◌≡◌, refl, ap}
use mathlib.Core.Bool.{Bool, true, false, not, ◌&&◌, and-true}
use mathlib.Core.List.{List, [], ◌∷◌}
use Rattle.std.proofs.Common.{arith}
use Rattle.std.specs.Option.{option_map}
use Rattle.model.specs.Kinds.{mode_number}
use Rattle.buffers.specs.Choices.{pick, is_some}
use Rattle.buffers.specs.Lists.{all}
use Rattle.text.specs.Fields.{part_of}
use Rattle.model.specs.Settings.{Config}
use Rattle.model.specs.Requests.{Letter, deleting, retaining, holding, bypassing, has}
use Rattle.model.specs.Refusals.{Need, need_if, need, put_needs, needs, granted, lacks_right}
use Rattle.fields.specs.declared.Rights.{Rights}
use Rattle.fields.specs.declared.Terms.{Terms}
use Rattle.request.specs.declared.Action.{Action}
use Rattle.request.specs.declared.Action.TheVariants.{Put, Copy, Retain, SetHold, AddMarker, DeleteVersion}
use Rattle.fields.specs.Meaning.{rights_means, terms_means}
use Rattle.request.specs.Meaning.{action_means}
use Rattle.screen.specs.Screen.{may_put}

-- All of these needs are held.
abbrev held : Rights → List Need → Bool
held a ns = all (λ n. has (rights_means a) n.letter) ns

held_if : (a : Rights) (given : Bool) (l : Letter) (k : List ℕ) (ns : List Need) → held a (need_if given l k ns) ≡ (pick given (has (rights_means a) l) true && held a ns)
held_if a true l k ns = refl
held_if a false l k ns = refl

put_held : (a : Rights) (k : List ℕ) (t : Terms) → held a (put_needs k (terms_means t)) ≡ may_put a t
unfolding may_put
put_held a k t =
    let o = is_some t.hold in
    let m : is_some (option_map mode_number t.retention.mode) ≡ is_some t.retention.mode = grind arith in
    rw (m, held_if a (is_some t.retention.mode) retaining k (need_if o holding k []), held_if a o holding k [], and-true (pick o a.h true))

bypass_held : (a : Rights) (l : Letter) (k : List ℕ) (y : Bool) → held a (need l k ∷ need_if y bypassing k []) ≡ (has (rights_means a) l && pick y a.b true)
bypass_held a l k y = rw (held_if a y bypassing k [], and-true (pick y a.b true))

-- The rights that an action needs are held.
abbrev pub allows : Rights → Action → Bool
allows a (Put k body size t) = may_put a t
allows a (Copy n k t) = a.r && may_put a t
allows a (Retain n r y) = a.t && pick y a.b true
allows a (SetHold n on) = a.h
allows a (AddMarker k y) = a.d && pick y a.b true
allows a (DeleteVersion k u y) = a.d && pick y a.b true

pub action_allowed : (s : Config) (line : List ℕ) (a : Rights) (x : Action) → lacks_right s (rights_means a) (action_means line x) ≡ not (allows a x)
unfolding lacks_right needs granted
action_allowed s line a (Put k body size t) = ap not (put_held a (part_of line k) t)
action_allowed s line a (Copy n k t) = ap (λ (b : Bool). not (a.r && b)) (put_held a (part_of line k) t)
action_allowed s line a (Retain n r y) = ap not (bypass_held a retaining (part_of line n.key) y)
action_allowed s line a (SetHold n on) = ap not (and-true a.h)
action_allowed s line a (AddMarker k y) = ap not (bypass_held a deleting (part_of line k) y)
action_allowed s line a (DeleteVersion k u y) = ap not (bypass_held a deleting (part_of line k) y)
