-- What a call leaves of a whole bucket is whole again.
use Prim.Native.Nat.{ℕ, ◌≤◌}
use mathlib.Core.Path.{◌≡◌, refl, sym, ◌∙◌}
use mathlib.Core.Logic.{inl, inr}
use mathlib.Core.Bool.{true}
use mathlib.Core.List.{List, [], ◌∷◌}
use native.Mathlib.Omega.{arith}
use lib.Dec.{eqb}
use lib.ListN.{length}
use borrow.Author.Tests.{eqb-true, eqb-false}
use Rattle.buffers.specs.Lists.{all}
use Rattle.buffers.proofs.Tests.{either, and_i, and_l, and_r}
use Rattle.text.proofs.Keys.{prefix_short}
use Rattle.blocks.specs.Blocks.{block_of, key_in, is_block}
use Rattle.blocks.proofs.Blocks.{key_back, block_block}
use Rattle.model.specs.Rows.{Row}
use Rattle.model.specs.Settings as model
use Rattle.model.specs.Settings.{sound_rule, sound_rules, sound_config}
use Rattle.model.specs.Requests.{Request, Heard, unreadable, says}
use Rattle.model.specs.Effects.{after}
use Rattle.model.specs.Retries.{meaning}
use Rattle.model.specs.Refusals.{refusal}
use Rattle.model.proofs.Sound.{whole as sound_whole, config_rules, sound_after}
use Rattle.settings.specs.Meaning.{rules_mean, settings_mean, rules_from, settings_from, prefixes_are}
use Rattle.table.specs.Layout.{keys_of, capacity}
use Rattle.bucket.specs.Whole.{Lent, bucket_of, whole}
use Rattle.table.proofs.Held.{read_back, keys_length}
use Rattle.bucket.proofs.Whole.{whole_parts, sound_parts, whole_of}
use Rattle.outcome.specs.Calls.{Call, heard}
use Rattle.outcome.specs.Outcome.{accepted, refusal_of, outcome}
use Rattle.outcome.proofs.Demands.{refused_unchanged, unreadable_refused, accepted_request}

rule_means_lem : (k : List ℕ) (c n : ℕ) (us vs : List model.Rule) → length k ≤ 63 → vs ≡ us → record { prefix = key_in (block_of k); current_days = c; noncurrent_days = n } ∷ vs ≡ record { prefix = k; current_days = c; noncurrent_days = n } ∷ us
rule_means_lem k c n us vs l e = rw (key_back k l, e)

short_prefix : (u : model.Rule) (us : List model.Rule) → all sound_rule (u ∷ us) ≡ true → length u.prefix ≤ 63
short_prefix u us e = prefix_short u.prefix (and_l _ _ (and_l (sound_rule u) _ e))

rules_mean_lem : (us : List model.Rule) → all sound_rule us ≡ true → rules_mean (rules_from us) ≡ us
rules_mean_lem [] e = refl
rules_mean_lem (u ∷ us) e = rule_means_lem u.prefix u.current_days u.noncurrent_days us (rules_mean (rules_from us)) (short_prefix u us e) (rules_mean_lem us (and_r (sound_rule u) _ e))

prefixes_are_lem : (us : List model.Rule) → all sound_rule us ≡ true → prefixes_are (rules_from us) ≡ true
prefixes_are_lem [] e = refl
prefixes_are_lem (u ∷ us) e = and_i (is_block (block_of u.prefix)) _ (block_block u.prefix (short_prefix u us e)) (prefixes_are_lem us (and_r (sound_rule u) _ e))

rules_of_lem : (us : List model.Rule) → sound_rules us ≡ true → all sound_rule us ≡ true
unfolding sound_rules
rules_of_lem us e = and_r (eqb (length us) 8) _ e

-- Settings made from the model's mean these.
settings_mean_lem : (s : model.Settings) (used : ℕ) → sound_config s.config ≡ true → settings_mean (settings_from s used) ≡ s
settings_mean_lem s used e = rw (rules_mean_lem s.config.rules (rules_of_lem s.config.rules (config_rules s.config e)))

module _ (b : Lent) (g : Call) where
  -- The model's refusal, where the whole is sound.
  pub model_refusal : whole b ≡ true → refusal_of b g ≡ refusal (capacity b.keys) (bucket_of b) (heard g)
  unfolding refusal_of refusal
  model_refusal w = rw (w, (whole_parts b w).is_sound)

  pub model_accepts : (q : Request) → whole b ≡ true → heard g ≡ says q → refusal_of b g ≡ 0 → refusal (capacity b.keys) (bucket_of b) (says q) ≡ 0
  model_accepts q w e z = rw e at (sym (model_refusal w) ∙ z)

  -- What an accepted request leaves is whole.
  pub accepted_whole : (q : Request) → whole b ≡ true → heard g ≡ says q → refusal_of b g ≡ 0 → whole (accepted b q g.answer).bucket ≡ true
  accepted_whole q w e z =
      let c = capacity b.keys in
      let x = after (bucket_of b) (meaning (bucket_of b) q) in
      let p = whole_parts b w in
      let m = sound_after c (bucket_of b) q (model_accepts q w e z) in
      let f = (sound_whole c x m).config_sound in
      whole_of _ c x.rows _ _ p.some p.most refl refl refl
      (prefixes_are_lem x.settings.config.rules (rules_of_lem _ (config_rules x.settings.config f)))
      (rw (settings_mean_lem x.settings (length x.rows) f) m)

  -- It is the model's bucket.
  pub accepted_bucket : (q : Request) → whole b ≡ true → heard g ≡ says q → refusal_of b g ≡ 0 → bucket_of (outcome b g).bucket ≡ after (bucket_of b) (meaning (bucket_of b) q)
  accepted_bucket q w e z =
      let c = capacity b.keys in
      let x = after (bucket_of b) (meaning (bucket_of b) q) in
      let m = sound_after c (bucket_of b) q (model_accepts q w e z) in
      let f = (sound_whole c x m).config_sound in
      let p = sound_parts c x m in
      rw (accepted_request b g q e z, settings_mean_lem x.settings (length x.rows) f, read_back c x.rows p.room p.keys_have_room)

  -- Every call leaves a whole bucket whole.
  pub outcome_whole : whole b ≡ true → whole (outcome b g).bucket ≡ true
  outcome_whole w =
      elim (either (eqb (refusal_of b g) 0)) [
        | inl t ↦ go (heard g) refl (eqb-true (refusal_of b g) 0 t)
        | inr t ↦ rw (refused_unchanged b g (eqb-false (refusal_of b g) 0 t)) w
      ]
    where
      go : (h : Heard) → heard g ≡ h → refusal_of b g ≡ 0 → whole (outcome b g).bucket ≡ true
      go (unreadable room) e z = absurd (unreadable_refused b g room e z)
      go (says q) e z = rw (accepted_request b g q e z) (accepted_whole q w e z)

-- The capacity stays.
pub accepted_capacity : (keys : List ℕ) (xs : List Row) → capacity (keys_of (capacity keys) xs) ≡ capacity keys
accepted_capacity keys xs = let e = keys_length (capacity keys) xs in omega arith
