-- What is small of the settings: all but the entries, which are the rules.
use Rattle.std.specs.Prelude.{List}
use Rattle.model.specs.Settings.{Default, Config}
use Rattle.model.specs.Settings as model
use Rattle.settings.specs.declared.Settings.{Settings}
use Rattle.settings.specs.declared.Rule.{Rule}
use Rattle.settings.specs.declared.State.{State}

abbrev pub state_of : Settings → State
state_of s = record { time = s.time; used = s.used; next = s.next; mode = s.mode; count = s.count; unit = s.unit }

-- the settings of a state, with these rules
abbrev pub settings_by : State → List Rule → Settings
settings_by s rules = record { time = s.time; used = s.used; next = s.next; mode = s.mode; count = s.count; unit = s.unit; rules = rules }

abbrev pub default_by : State → Default
default_by s = record { mode = s.mode; count = s.count; unit = s.unit }

-- the config of a state, with these rules
abbrev pub config_by : State → List model.Rule → Config
config_by s rules = record { default = default_by s; rules = rules }
