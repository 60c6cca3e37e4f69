-- The definitions at work: bytes, and settings that are sound or not.
use Rattle.std.specs.Prelude.{ℕ, ◌≡◌, refl, true, false, ◌∷◌, ◌++◌, replicate}
use Rattle.buffers.specs.Words.{number, spelled}
use Rattle.buffers.specs.Texts.{bytes}
use Rattle.text.specs.Keys.{is_key_byte, is_prefix}
use Rattle.blocks.specs.Blocks.{block_of, is_block}
use Rattle.model.specs.Settings.{sound_config, sound_rules}
use Rattle.settings.specs.declared.Settings.{Settings}
use Rattle.settings.specs.declared.Rule.{Rule}
use Rattle.settings.specs.Bytes.{rule_bytes, rules_bytes, settings_bytes, rules_at, settings_with, settings_of, settings_fit}
use Rattle.settings.specs.State.{state_of}
use Rattle.settings.specs.Meaning.{settings_sound}

-- no rule
abbrev absent : Rule
absent = record { prefix = replicate 64 0; current = 0; noncurrent = 0 }

-- after 30 days, and noncurrent versions after 513, for all keys that begin with logs/
abbrev logs : Rule
logs = record { prefix = block_of (bytes "logs/"); current = 30; noncurrent = 513 }

-- settings with a default retention and a first rule
abbrev with : ℕ → ℕ → ℕ → Rule → Settings
with mode count unit u =
    record { time = 0; used = 0; next = 1; mode = mode; count = count; unit = unit; rules = u ∷ replicate 7 absent }

-- a rule that does nothing and has a prefix
abbrev idle : Rule
idle = record { prefix = block_of (bytes "logs/"); current = 0; noncurrent = 0 }

-- a prefix with a byte behind its end
abbrev dirty : Rule
dirty = record { prefix = 1 ∷ 97 ∷ 98 ∷ replicate 61 0; current = 30; noncurrent = 0 }

-- a day more than a rule may have
abbrev late : Rule
late = record { prefix = replicate 64 0; current = 36501; noncurrent = 0 }

pub record Examples : Type 0 where
  -- 1 for the next version number in the third word, zeros everywhere else
  pub fresh_as_bytes : settings_bytes (with 0 0 0 absent) ≡ replicate 16 0 ++ (1 ∷ replicate 671 0)
  -- the prefix's length, the prefix, zeros, and two numbers with the low byte first
  pub rule_as_bytes : rule_bytes logs ≡ 5 ∷ 108 ∷ 111 ∷ 103 ∷ 115 ∷ 47 ∷ replicate 58 0 ++ (30 ∷ replicate 7 0 ++ (1 ∷ 2 ∷ replicate 6 0))
  pub read_back : settings_of (settings_bytes (with 1 30 1 logs)) ≡ with 1 30 1 logs
  pub lent_back : settings_with (state_of (with 1 30 1 logs)) (rules_bytes (with 1 30 1 logs).rules) ≡ with 1 30 1 logs
  pub fits : settings_fit (with 1 30 1 logs) ≡ true
  pub fresh_sound : settings_sound (with 0 0 0 absent) ≡ true
  -- GOVERNANCE for 36500 days, and no day more
  pub longest : settings_sound (with 1 36500 1 logs) ≡ true
  pub too_long : settings_sound (with 1 36501 1 logs) ≡ false
  -- COMPLIANCE for 100 years, and no year more
  pub years : settings_sound (with 2 100 2 absent) ≡ true
  pub too_many : settings_sound (with 2 101 2 absent) ≡ false
  -- no default, but a count
  pub half_absent : settings_sound (with 0 30 0 absent) ≡ false
  pub no_action : settings_sound (with 0 0 0 idle) ≡ false
  pub dirty_prefix : settings_sound (with 0 0 0 dirty) ≡ false
  pub late_rule : settings_sound (with 0 0 0 late) ≡ false

pub examples : Examples
unfolding settings_bytes rules_at settings_of settings_fit settings_sound number spelled block_of is_block is_prefix is_key_byte sound_config sound_rules
examples =
    record {
      fresh_as_bytes = refl;
      rule_as_bytes = refl;
      read_back = refl;
      lent_back = refl;
      fits = refl;
      fresh_sound = refl;
      longest = refl;
      too_long = refl;
      years = refl;
      too_many = refl;
      half_absent = refl;
      no_action = refl;
      dirty_prefix = refl;
      late_rule = refl;
    }
