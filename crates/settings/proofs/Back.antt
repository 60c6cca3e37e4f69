-- Settings whose prefixes are what they are written as come back from what they mean; fresh ones are sound.
use Prim.Native.Nat.{ℕ, zero, suc}
use mathlib.Core.Path.{◌≡◌, refl, ap}
use mathlib.Core.Bool.{true}
use mathlib.Core.List.{List, [], ◌∷◌}
use lib.ListN.{set}
use Rattle.buffers.proofs.Tests.{and_l, and_r}
use Rattle.blocks.specs.Blocks.{block_of, key_in, is_block}
use Rattle.blocks.proofs.Blocks.{block_path}
use Rattle.text.specs.Keys.{is_prefix}
use Rattle.model.specs.Settings as model
use Rattle.model.specs.Settings.{sound_config, sound_rules}
use Rattle.settings.specs.declared.Settings.{Settings}
use Rattle.settings.specs.declared.Rule.{Rule}
use Rattle.settings.specs.Meaning.{rules_mean, settings_mean, rule_from, rules_from, settings_from, fresh_settings, prefixes_are, settings_sound}

rule_back : (u : Rule) (us vs : List Rule) → is_block u.prefix ≡ true → vs ≡ us → record { prefix = block_of (key_in u.prefix); current = u.current; noncurrent = u.noncurrent } ∷ vs ≡ u ∷ us
rule_back u us vs e q = rw (← block_path u.prefix e, q)

pub rules_back : (us : List Rule) → prefixes_are us ≡ true → rules_from (rules_mean us) ≡ us
rules_back [] e = refl
rules_back (u ∷ us) e = rule_back u us (rules_from (rules_mean us)) (and_l _ _ e) (rules_back us (and_r (is_block u.prefix) _ e))

pub means_back : (s : Settings) → prefixes_are s.rules ≡ true → settings_from (settings_mean s) s.used ≡ s
means_back s e = rw (rules_back s.rules e)

pub rules_set : (us : List model.Rule) (i : ℕ) (u : model.Rule) → rules_from (set us i u) ≡ set (rules_from us) i (rule_from u)
rules_set [] i u = refl
rules_set (v ∷ us) zero u = refl
rules_set (v ∷ us) (suc i) u = ap (λ (l : List Rule). rule_from v ∷ l) (rules_set us i u)

pub fresh_sound : settings_sound fresh_settings ≡ true
unfolding block_of is_block is_prefix settings_sound sound_config sound_rules
fresh_sound = refl
