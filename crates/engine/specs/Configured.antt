-- The settings that a verb has set.
use Rattle.std.specs.Prelude.{◌≡◌, true, List, ℕ, length}
use Rattle.model.specs.Requests as model
use Rattle.model.specs.Effects.{set_config}
use Rattle.settings.specs.declared.Settings.{Settings}
use Rattle.settings.specs.declared.State.{State}
use Rattle.settings.specs.Bytes.{entries_length, rules_of}
use Rattle.settings.specs.Meaning.{settings_mean, settings_from, prefixes_are}
use Rattle.request.specs.declared.Setting.{Setting}
use Rattle.request.specs.Meaning.{setting_means, SettingInside}

-- What setting asks: as many entries as there are, prefixes as they are written, and the fields within their ranges and the line.
pub record Settable (line : List ℕ) (s : State) (entries : List ℕ) (x : Setting) : Type 0 where
  pub entries_long : length entries ≡ entries_length
  pub prefixes : prefixes_are (rules_of entries) ≡ true
  pub is_in_range : model.is_setting (setting_means line x) ≡ true
  pub inside : SettingInside line x

-- The settings with what a verb sets; time, used rows and next number stay.
abbrev pub configured_by : Settings → model.Setting → Settings
configured_by s x = settings_from (record { time = s.time; next = s.next; config = set_config x (settings_mean s).config }) s.used
