-- What the values of single fields stand for in the model.
use Rattle.std.specs.Prelude.{ℕ, ◌+◌, ◌≤◌, List, length, Option}
use Rattle.std.specs.Option.{option_map}
use Rattle.text.specs.declared.Place.{Place}
use Rattle.model.specs.Settings.{days, years}
use Rattle.model.specs.Kinds.{mode_number}
use Rattle.model.specs.Requests as model
use Rattle.fields.specs.declared.Period.{Period}
use Rattle.fields.specs.declared.Period.TheVariants.{Days, Years}
use Rattle.fields.specs.declared.Rights.{Rights}
use Rattle.fields.specs.declared.Retention.{Retention}
use Rattle.fields.specs.declared.Terms.{Terms}

-- ## Values

-- mode and date, the mode by its number
abbrev pub retention_means : Retention → model.Retention
retention_means r = record { mode = option_map mode_number r.mode; date = r.until }

-- the lock fields of a PUT or COPY
abbrev pub terms_means : Terms → model.Terms
terms_means t = record { retention = retention_means t.retention; hold = t.hold }

-- a version number
abbrev pub version_means : Option ℕ → Option model.Version
version_means v = option_map model.numbered v

-- a period
abbrev pub period_means : Period → model.Period
period_means (Days n) = record { count = n; unit = days }
period_means (Years n) = record { count = n; unit = years }

-- the letters of rights
abbrev pub rights_means : Rights → model.Rights
rights_means a = record { r = a.r; w = a.w; d = a.d; t = a.t; h = a.h; b = a.b; c = a.c }

-- ## Places

-- the place lies within the line
pub record Inside (s : List ℕ) (p : Place) : Type 0 where
  pub end : p.start + p.len ≤ length s
