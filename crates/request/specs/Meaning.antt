-- What the code's values stand for: the model's, where a key is the part of the line at its place.
use Rattle.std.specs.Prelude.{ℕ, List}
use Rattle.std.specs.Option.{option_map}
use Rattle.text.specs.Fields.{part_of}
use Rattle.model.specs.Kinds.{mode_number}
use Rattle.model.specs.Requests as model
use Rattle.request.specs.declared.Name.{Name}
use Rattle.request.specs.declared.Action.{Action}
use Rattle.request.specs.declared.Action.TheVariants.{Put, Copy, Retain, SetHold, AddMarker, DeleteVersion}
use Rattle.request.specs.declared.Setting.{Setting}
use Rattle.request.specs.declared.Setting.TheVariants.{Default, Rule}
use Rattle.request.specs.declared.Verb.{Verb}
use Rattle.request.specs.declared.Verb.TheVariants.{Act, Set, Sweep, Ask}
use Rattle.request.specs.declared.Page.{Page}
use Rattle.request.specs.declared.Query.{Query}
use Rattle.request.specs.declared.Query.TheVariants.{Get, ListVersions, Report}
use Rattle.fields.specs.Meaning.{retention_means, terms_means, version_means, period_means, Inside}

-- ## Values

-- a key with its version
abbrev pub name_means : List ℕ → Name → model.Name
name_means s n = model.name (part_of s n.key) (version_means n.version)

-- a verb on the rows of a key
abbrev pub action_means : List ℕ → Action → model.Verb
action_means s (Put k body size t) = model.Put (part_of s k) body size (terms_means t)
action_means s (Copy n k t) = model.Copy (name_means s n) (part_of s k) (terms_means t)
action_means s (Retain n r y) = model.Retain (name_means s n) (retention_means r) y
action_means s (SetHold n on) = model.Hold (name_means s n) on
action_means s (AddMarker k y) = model.AddMarker (part_of s k) y
action_means s (DeleteVersion k n y) = model.DeleteVersion (part_of s k) (model.numbered n) y

-- DEFAULT or RULE
abbrev pub setting_means : List ℕ → Setting → model.Setting
setting_means s (Default m p) = model.DefaultRetention (option_map mode_number m) (option_map period_means p)
setting_means s (Rule i p current noncurrent) = model.LifecycleRule i (record { prefix = part_of s p; current_days = current; noncurrent_days = noncurrent })

-- a page of versions
abbrev pub page_means : List ℕ → Page → model.Page
page_means s p = model.page (part_of s p.prefix) (part_of s p.key) p.version p.count

-- GET, LIST or REPORT
abbrev pub query_means : List ℕ → Query → model.Query
query_means s (Get n) = model.Get (name_means s n)
query_means s (ListVersions p) = model.ListVersions (page_means s p)
query_means s (Report p) = model.Report (part_of s p)

-- a verb with its fields
abbrev pub verb_means : List ℕ → Verb → model.Verb
verb_means s (Act a) = action_means s a
verb_means s (Set a) = model.Set (setting_means s a)
verb_means s Sweep = model.Sweep
verb_means s (Ask a) = model.Ask (query_means s a)

-- ## Places

-- every key of the action lies within the line
abbrev pub ActionInside : List ℕ → Action → Type 0
ActionInside s (Put k body size t) = Inside s k
ActionInside s (Copy n k t) = Inside s n.key × Inside s k
ActionInside s (Retain n r y) = Inside s n.key
ActionInside s (SetHold n on) = Inside s n.key
ActionInside s (AddMarker k y) = Inside s k
ActionInside s (DeleteVersion k n y) = Inside s k

-- the prefix of a RULE does
abbrev pub SettingInside : List ℕ → Setting → Type 0
SettingInside s (Default m p) = Unit
SettingInside s (Rule i p current noncurrent) = Inside s p

-- so do prefix and key of a page
pub record PageInside (s : List ℕ) (p : Page) : Type 0 where
  pub prefix : Inside s p.prefix
  pub key : Inside s p.key

-- and the key or prefix of what asks
abbrev pub QueryInside : List ℕ → Query → Type 0
QueryInside s (Get n) = Inside s n.key
QueryInside s (ListVersions p) = PageInside s p
QueryInside s (Report p) = Inside s p

-- so does every key and prefix of the verb
abbrev pub VerbInside : List ℕ → Verb → Type 0
VerbInside s (Act a) = ActionInside s a
VerbInside s (Set a) = SettingInside s a
VerbInside s Sweep = Unit
VerbInside s (Ask a) = QueryInside s a
