-- The settings that DEFAULT and RULE set are those of the model.
use Prim.Native.Nat.{ℕ, ◌+◌, ◌≤◌, ◌<◌}
use mathlib.Core.Path.{◌≡◌, refl}
use mathlib.Core.Bool.{true, ◌&&◌}
use mathlib.Core.List.{List}
use lib.ListN.{length, set}
use lib.Dec.{ltb}
use borrow.Author.Tests.{ltb-true}
use Rattle.buffers.specs.Choices.{then_some, or_zero}
use Rattle.text.specs.declared.Place.{Place}
use Rattle.buffers.proofs.Tests.{and_l, and_r}
use Rattle.text.specs.Fields.{part_of}
use Rattle.text.specs.Keys.{is_prefix}
use Rattle.text.proofs.Keys.{prefix_short}
use Rattle.model.specs.Settings.{is_days}
use Rattle.model.specs.Effects.{set_config, stored}
use Rattle.settings.specs.declared.State.{State}
use Rattle.settings.specs.Bytes.{entries_length, rules_of, settings_with}
use Rattle.settings.specs.Meaning.{rules_mean, rule_from}
use Rattle.settings.proofs.Back.{rules_back, rules_set}
use Rattle.std.specs.Option.{option_map}
use Rattle.std.specs.Prelude.{Option}
use Rattle.model.specs.declared.Mode.{Mode}
use Rattle.model.specs.Kinds.{mode_number}
use Rattle.fields.specs.declared.Period.{Period}
use Rattle.request.specs.declared.Setting.{Setting}
use Rattle.request.specs.declared.Setting.TheVariants as setting
use Rattle.fields.specs.Meaning.{period_means, Inside}
use Rattle.request.specs.Meaning.{setting_means}
use Rattle.engine.specs.Configured.{Settable, configured_by}

module _ (s : State) (e line : List ℕ) (x : Setting) where
  pub default_set : (m : Option Mode) (p : Option Period) (mode count unit : ℕ) → x ≡ setting.Default m p → Settable line s e x
      → mode ≡ or_zero (option_map mode_number m) → count ≡ then_some (option_map period_means p) 0 (λ q. q.count) → unit ≡ then_some (option_map period_means p) 0 (λ q. q.unit)
      → settings_with (record { time = s.time; used = s.used; next = s.next; mode = mode; count = count; unit = unit }) e ≡ configured_by (settings_with s e) (setting_means line x)
  unfolding set_config
  default_set m p mode count unit q h a b c = rw (q, a, b, c, rules_back (rules_of e) h.prefixes)

  pub rule_set : (prefix e' : List ℕ) (i : ℕ) (p : Place) (current noncurrent : ℕ) → x ≡ setting.Rule i p current noncurrent → Settable line s e x
      → prefix ≡ part_of line p → rules_of e' ≡ set (rules_of e) i (rule_from (stored (record { prefix = prefix; current_days = current; noncurrent_days = noncurrent })))
      → settings_with s e' ≡ configured_by (settings_with s e) (setting_means line x)
  unfolding set_config
  rule_set prefix e' i p current noncurrent q h a f = rw (q, f, a, rules_set (rules_mean (rules_of e)) i, rules_back (rules_of e) h.prefixes)

-- What setting a rule asks.
module _ (s : State) (e line : List ℕ) (x : Setting) (h : Settable line s e x) (i : ℕ) (p : Place) (current noncurrent : ℕ) (q : x ≡ setting.Rule i p current noncurrent) where
  ranges : (ltb i 8 && (is_prefix (part_of line p) && (is_days current && is_days noncurrent))) ≡ true
  ranges = rw q at h.is_in_range

  pub rule_place : i < 8
  rule_place = ltb-true i 8 (and_l _ _ ranges)

  pub rule_prefix : (prefix : List ℕ) → prefix ≡ part_of line p → length prefix ≤ 63
  rule_prefix prefix e = rw e (prefix_short (part_of line p) (and_l _ _ (and_r (ltb i 8) _ ranges)))

  pub rule_inside : p.start + p.len ≤ length line
  rule_inside = let y : Inside line p = rw q at h.inside in y.end

  pub rule_entries : length e ≡ entries_length
  rule_entries = h.entries_long

pub ruleset sets = (refl, default_set, rule_set, rule_place, rule_prefix, rule_inside, rule_entries)
