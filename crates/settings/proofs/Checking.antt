-- Laws of soundness: a rule, the rules one after the other, and the whole in the code's order of tests.
use Prim.Native.Nat.{ℕ, zero, suc, ◌+◌, ◌*◌, ◌-◌, ◌≤◌, ◌<◌}
use mathlib.Core.Path.{◌≡◌, refl, sym, ap, ◌∙◌}
use mathlib.Core.Bool.{Bool, true, false, not, ◌&&◌, ◌||◌, and_assoc}
use mathlib.Core.List.{List, [], ◌∷◌}
use native.Mathlib.Omega.{arith}
use native.Mathlib.Numerals.{add-one}
use lib.Dec.{eqb, leb}
use lib.ListN.{length, get_or, take, drop, length-drop, drop_of_length-le}
use lib.Seq.{drop-cons, length-take-le}
use borrow.Author.Tests.{eq-eqb, ne_eqb}
use Rattle.buffers.specs.Lists.{all}
use Rattle.buffers.proofs.Parts.{part_cut, part_first}
use Rattle.text.specs.Keys.{is_prefix}
use Rattle.calendar.specs.Calendar.{latest}
use Rattle.blocks.specs.Blocks.{key_in, is_block}
use Rattle.model.specs.Settings as model
use Rattle.settings.specs.declared.State.{State}
use Rattle.settings.specs.declared.Rule.{Rule}
use Rattle.settings.specs.Meaning.{rule_means, rules_mean, prefixes_are, settings_sound}
use Rattle.settings.specs.Bytes.{word_at, rule_at, rules_of, settings_with}
use Rattle.settings.specs.Changes.{rule_sound}
use Rattle.settings.proofs.Entries.{rules_long, rule_among}
use Rattle.settings.proofs.Encoding.{no_rule}

-- A test in the middle comes to the front.
and_past : (a p x : Bool) → (a && (p && x)) ≡ (p && (a && x))
and_past a true x = refl
and_past true false x = refl
and_past false false x = refl

-- ## A rule

-- A prefix is empty exactly where the first byte is 0.
empty_first : (p : List ℕ) → length p ≡ 64 → eqb (get_or p 0 0) 0 ≡ eqb (length (key_in p)) 0
empty_first [] h = refl
empty_first (zero ∷ t) h = refl
empty_first (suc n ∷ []) h = absurd (omega arith)
empty_first (suc n ∷ x ∷ t) h = ne_eqb (suc n) 0 (λ e. omega arith) ∙ sym (ne_eqb (suc (length (take n t))) 0 (λ e. omega arith))

pub rule_checked : (e : List ℕ) (at x y : ℕ) (r : Bool) → at + 80 ≤ length e → x ≡ word_at e (at + 64) → y ≡ word_at e (at + 72) → r ≡ is_block (take (at + 64 - at) (drop at e)) && is_prefix (key_in (take (at + 64 - at) (drop at e)))
    → (r && (leb x 36500 && (leb y 36500 && (not (eqb x 0 && eqb y 0) || eqb (get_or e at 0) 0)))) ≡ rule_sound (rule_at e at)
rule_checked e at x y r h fx fy f =
    let p = take 64 (drop at e) in
    let d = length-drop at e in
    let n : length p ≡ 64 = length-take-le 64 (drop at e) (omega arith) in
    rw (fx, fy, f, part_cut e at 64, part_first e at 64 (omega arith), empty_first p n) (and_assoc (is_block p) (is_prefix (key_in p)) _)

-- ## The rules

means_length : (us : List Rule) → length (rules_mean us) ≡ length us
means_length [] = refl
means_length (u ∷ us) = ap suc (means_length us)

two_pairs : (a b c d : Bool) → (a && b && (c && d)) ≡ (a && c && (b && d))
two_pairs true b c d = and_past b c d
two_pairs false b c d = refl

all_apart : (us : List Rule) → all rule_sound us ≡ (prefixes_are us && all model.sound_rule (rules_mean us))
all_apart [] = refl
all_apart (u ∷ us) =
    rw (all_apart us) (two_pairs (is_block u.prefix) (model.sound_rule (rule_means u)) (prefixes_are us) (all model.sound_rule (rules_mean us)))

rules_sound : (us : List Rule) → length us ≡ 8 → all rule_sound us ≡ (prefixes_are us && model.sound_rules (rules_mean us))
unfolding model.sound_rules
rules_sound us h = rw (means_length us, eq-eqb (length us) 8 h) (all_apart us)

module _ (b : List ℕ) (k : ℕ) (q : all rule_sound (rules_of b) ≡ all rule_sound (drop k (rules_of b))) where
  rule_next : k < 8 → drop k (rules_of b) ≡ rule_at b (80 * k) ∷ drop (suc k) (rules_of b)
  rule_next h =
      let z : 0 + 80 * k ≡ 80 * k = omega arith in
      drop-cons (rules_of b) k no_rule (omega (arith, rules_long 8 0 b)) ∙ ap (λ (u : Rule). u ∷ drop (suc k) (rules_of b)) (rule_among 8 0 k b no_rule h ∙ ap (rule_at b) z)

  pub sound_stop : (r : Bool) → k < 8 → r ≡ rule_sound (rule_at b (80 * k)) → r ≡ false → false ≡ (prefixes_are (rules_of b) && model.sound_rules (rules_mean (rules_of b)))
  sound_stop r h e t = sym (q ∙ rw (rule_next h, sym e ∙ t)) ∙ rules_sound (rules_of b) (rules_long 8 0 b)

  pub sound_step : (r : Bool) → k < 8 → r ≡ rule_sound (rule_at b (80 * k)) → r ≡ true → all rule_sound (rules_of b) ≡ all rule_sound (drop (k + 1) (rules_of b))
  sound_step r h e t = q ∙ rw (add-one, rule_next h, sym e ∙ t)

  pub sound_end : 8 ≤ k → true ≡ (prefixes_are (rules_of b) && model.sound_rules (rules_mean (rules_of b)))
  sound_end h = sym (q ∙ rw (drop_of_length-le (rules_of b) {i = k} (omega (arith, rules_long 8 0 b)))) ∙ rules_sound (rules_of b) (rules_long 8 0 b)

pub ruleset rules_checked = (sound_stop, sound_step, sound_end)

-- ## The whole

prefixes_last : (t n m d p r : Bool) → (t && (n && (m && (d && (p && r))))) ≡ (p && (t && (n && (m && (d && r)))))
prefixes_last t n m d p r =
    rw (and_past d p r, and_past m p (d && r), and_past n p (m && (d && r))) (and_past t p (n && (m && (d && r))))

pub settings_checked : (s : State) (e : List ℕ) (d r : Bool) → d ≡ model.sound_default (record { mode = s.mode; count = s.count; unit = s.unit })
    → r ≡ prefixes_are (rules_of e) && model.sound_rules (rules_mean (rules_of e))
    → (leb s.time latest && (leb 1 s.next && (leb s.next model.spent_number && (d && r)))) ≡ settings_sound (settings_with s e)
unfolding settings_sound model.sound_config
settings_checked s b d r e f =
    let default = model.sound_default (record { mode = s.mode; count = s.count; unit = s.unit }) in
    rw (e, f) (prefixes_last (leb s.time latest) (leb 1 s.next) (leb s.next model.spent_number) default (prefixes_are (rules_of b)) (model.sound_rules (rules_mean (rules_of b))))
