-- Refusals 5 and 13 of a verb that only asks.
use Prim.Native.Nat.{ℕ}
use mathlib.Core.Path.{◌≡◌, ap}
use mathlib.Core.Bool.{Bool, false, not, and-true}
use mathlib.Core.List.{List}
use Rattle.text.specs.declared.Place.{Place}
use Rattle.model.specs.Settings.{Config}
use Rattle.model.specs.Requests as model
use Rattle.model.specs.Refusals.{needs, granted, lacks_right, short_for_page}
use Rattle.fields.specs.declared.Rights.{Rights}
use Rattle.fields.specs.Meaning.{rights_means}
use Rattle.request.specs.declared.Verb.{Verb}
use Rattle.request.specs.declared.Verb.TheVariants.{Ask}
use Rattle.request.specs.declared.Query.{Query}
use Rattle.request.specs.declared.Query.TheVariants.{Get, ListVersions, Report}
use Rattle.request.specs.Meaning.{query_means, verb_means}

pub ask_allowed : (s : Config) (line : List ℕ) (a : Rights) (v : Verb) (q : Query) → v ≡ Ask q → lacks_right s (rights_means a) (verb_means line v) ≡ not a.r
unfolding lacks_right needs granted
ask_allowed s line a v (Get n) e = rw e (ap not (and-true a.r))
ask_allowed s line a v (ListVersions p) e = rw e (ap not (and-true a.r))
ask_allowed s line a v (Report p) e = rw e (ap not (and-true a.r))

pub report_fits : (line : List ℕ) (room : ℕ) (q : Query) (r : Bool) (p : Place) → q ≡ Report p → r ≡ false → r ≡ short_for_page room (model.Ask (query_means line q))
unfolding short_for_page
report_fits line room q r p e h = rw e h
