-- Laying the rules that are set.
use Rattle.std.proofs.lemmas.List.{map-append}
use Rattle.std.proofs.Common.{◌≡◌, ℕ, ◌+◌, ◌-◌, ◌*◌, ◌<◌, ◌≤◌, Bool, true, false, List, [], ◌∷◌, ◌++◌, length, get_or, take, drop, set, sym, refl, ap, ◌∙◌, add-one, arith, length-set, append-nil, take-suc, take-suc-set, take_all}
use Rattle.std.specs.Array.{IsWholeChunk}
use Rattle.blocks.specs.Blocks.{key_in, is_block}
use Rattle.model.specs.Settings as model
use Rattle.model.specs.Settings.{is_set}
use Rattle.model.specs.Comparisons.{set_rules}
use Rattle.settings.specs.declared.Rule.{Rule}
use Rattle.settings.specs.Bytes.{word_at, rule_at, rules_of}
use Rattle.settings.proofs.Entries.{rules_long, rule_among}
use Rattle.settings.proofs.Encoding.{no_rule}
use Rattle.settings.specs.Meaning.{rules_mean, rule_means, prefixes_are}
use Rattle.buffers.proofs.Parts.{part_cut}
use Rattle.buffers.proofs.Lists.{all_at, keep_append}
use Rattle.lifecycle.specs.declared.laid.LaidRule.{LaidRule}
use Rattle.lifecycle.specs.LaidRules.{rule_of, rules_in}

-- ## Laying the rules that are set

-- what holds at each turn: of the first i rules of the entries those that are set are laid, n of them
pub record Laying (e : List ℕ) (rs : List LaidRule) (n i : ℕ) : Type 0 where
  pub low : n ≤ i
  pub most : i ≤ 8
  pub long : length rs ≡ 8
  pub laid : rules_in (take n rs) ≡ set_rules (rules_mean (take i (rules_of e)))

pub lay_start : (e : List ℕ) (rs : List LaidRule) → length rs ≡ 8 → Laying e rs 0 0
lay_start e rs l = record { low = omega arith; most = omega arith; long = l; laid = refl }

means_append : (us vs : List Rule) → rules_mean (us ++ vs) ≡ rules_mean us ++ rules_mean vs
means_append [] vs = refl
means_append (u ∷ us) vs = ap (λ (l : List model.Rule). rule_means u ∷ l) (means_append us vs)

module _ (e : List ℕ) (i : ℕ) (below : i < 8) where
  -- the rule of this turn
  turn : get_or (rules_of e) i no_rule ≡ rule_at e (80 * i)
  turn = let z : 0 + 80 * i ≡ 80 * i = omega arith in rule_among 8 0 i e no_rule (omega arith) ∙ ap (rule_at e) z

  one_more : set_rules (rules_mean (take (i + 1) (rules_of e))) ≡ set_rules (rules_mean (take i (rules_of e))) ++ set_rules (rule_means (rule_at e (80 * i)) ∷ [])
  one_more = rw (add-one i, take-suc (rules_of e) i no_rule (omega (arith, rules_long 8 0 e)), turn, means_append, keep_append)

  prefix_cut : (p : List ℕ) → IsWholeChunk (take (80 * i + 64 - 80 * i) (drop (80 * i) e)) p 64 → p ≡ take 64 (drop (80 * i) e)
  prefix_cut p h = h.same ∙ part_cut e (80 * i) 64

  prefix_at : prefixes_are (rules_of e) ≡ true → is_block (take 64 (drop (80 * i) e)) ≡ true
  prefix_at f = ap (λ (u : Rule). is_block u.prefix) (sym turn) ∙ all_at (λ u. is_block u.prefix) (rules_of e) i no_rule (omega (arith, rules_long 8 0 e)) f

  pub prefix_block : (p : List ℕ) → IsWholeChunk (take (80 * i + 64 - 80 * i) (drop (80 * i) e)) p 64 → prefixes_are (rules_of e) ≡ true → is_block p ≡ true
  prefix_block p h f = rw (prefix_cut p h) (prefix_at f)

  module _ (rs : List LaidRule) (n x y : ℕ) (h : Laying e rs n i) (r : Bool) (s : (prefix : List ℕ) → r ≡ is_set (record { prefix = prefix; current_days = x; noncurrent_days = y })) (ex : x ≡ word_at e (80 * i + 64)) (ey : y ≡ word_at e (80 * i + 72)) where
    set_as : is_set (rule_means (rule_at e (80 * i))) ≡ r
    set_as = sym (s (key_in (take 64 (drop (80 * i) e))) ∙ rw (ex, ey))

    pub lay_no : r ≡ false → Laying e rs n (i + 1)
    lay_no t = record { low = omega (arith, h.low); most = omega arith; long = h.long; laid = rw (one_more, set_as, t, append-nil) h.laid }

    pub lay_yes : (u : LaidRule) → r ≡ true → IsWholeChunk (take (80 * i + 64 - 80 * i) (drop (80 * i) e)) u.prefix 64 → u.current ≡ x → u.noncurrent ≡ y → Laying e (set rs n u) (n + 1) (i + 1)
    lay_yes u t p c m =
        let q : rule_of u ≡ rule_means (rule_at e (80 * i)) = rw (prefix_cut u.prefix p, c ∙ ex, m ∙ ey) in
        record {
          low = omega (arith, h.low);
          most = omega arith;
          long = length-set rs n u ∙ h.long;
          laid = rw (one_more, set_as, t, add-one n, take-suc-set rs n u (omega (arith, h.low, h.long)), map-append, q, h.laid);
        }

pub lay_end : (e : List ℕ) (rs : List LaidRule) (n i : ℕ) → Laying e rs n i → 8 ≤ i → rules_in (take n rs) ≡ set_rules (rules_mean (rules_of e))
lay_end e rs n i h g = h.laid ∙ ap (λ (l : List Rule). set_rules (rules_mean l)) (take_all i (rules_of e) (omega (arith, rules_long 8 0 e)))

module _ (e : List ℕ) (rs : List LaidRule) (n i : ℕ) (h : Laying e rs n i) where
  pub place_left : i < 8 → n < length rs
  place_left g = omega (arith, h.low, h.long)

  pub laid_few : n ≤ 8
  laid_few = omega (arith, h.low, h.most)

pub ruleset lay_cases = (lay_start, prefix_block, place_left, laid_few, lay_no, lay_yes, lay_end)
