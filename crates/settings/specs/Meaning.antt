-- What the settings stand for in the model, and when they are sound.
use Rattle.std.specs.Prelude.{ℕ, Bool, ◌&&◌, List, [], ◌∷◌}
use Rattle.buffers.specs.Lists.{all}
use Rattle.blocks.specs.Blocks.{block_of, key_in, is_block}
use Rattle.model.specs.Settings as model
use Rattle.settings.specs.declared.Settings.{Settings}
use Rattle.settings.specs.declared.Rule.{Rule}

-- ## From the settings of the code to the model's

-- a rule's prefix is the key that its 64 bytes hold
abbrev pub rule_means : Rule → model.Rule
rule_means u = record { prefix = key_in u.prefix; current_days = u.current; noncurrent_days = u.noncurrent }

abbrev pub rules_mean : List Rule → List model.Rule
rules_mean [] = []
rules_mean (u ∷ us) = rule_means u ∷ rules_mean us

-- the used rows are told by the table
abbrev pub settings_mean : Settings → model.Settings
settings_mean s =
    record {
      time = s.time;
      next = s.next;
      config = record { default = record { mode = s.mode; count = s.count; unit = s.unit }; rules = rules_mean s.rules };
    }

-- ## From the model's settings to those of the code

abbrev pub rule_from : model.Rule → Rule
rule_from u = record { prefix = block_of u.prefix; current = u.current_days; noncurrent = u.noncurrent_days }

abbrev pub rules_from : List model.Rule → List Rule
rules_from [] = []
rules_from (u ∷ us) = rule_from u ∷ rules_from us

-- the settings, with this count of used rows
abbrev pub settings_from : model.Settings → ℕ → Settings
settings_from s used =
    record {
      time = s.time;
      used = used;
      next = s.next;
      mode = s.config.default.mode;
      count = s.config.default.count;
      unit = s.config.default.unit;
      rules = rules_from s.config.rules;
    }

-- the model's fresh settings, no row used
abbrev pub fresh_settings : Settings
fresh_settings = settings_from (model.fresh).settings 0

-- ## Soundness

-- every prefix's bytes are those of the prefix that they hold
abbrev pub prefixes_are : List Rule → Bool
prefixes_are us = all (λ u. is_block u.prefix) us

-- the settings by themselves are sound
unfoldable pub settings_sound : Settings → Bool
settings_sound s = prefixes_are s.rules && model.sound_settings (settings_mean s)
