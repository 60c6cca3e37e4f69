-- Settings that are written read as themselves, and entries that are read are those that are written.
use Prim.Native.Nat.{ℕ, zero, suc, ◌+◌, ◌*◌}
use mathlib.Core.Path.{◌≡◌, refl, sym, ap, ◌∙◌}
use mathlib.Core.Bool.{true}
use mathlib.Core.List.{List, [], ◌∷◌, ◌++◌, append_assoc}
use native.Mathlib.Omega.{arith}
use lib.Dec.{eqb}
use lib.ListN.{length, length-append}
use lib.Seq.{take_all}
use borrow.Author.Tests.{eqb-true}
use Rattle.buffers.specs.Lists.{all}
use Rattle.buffers.specs.Words.{spelled, AllBytes}
use Rattle.buffers.proofs.Tests.{and_both}
use Rattle.settings.specs.declared.Settings.{Settings}
use Rattle.settings.specs.declared.Rule.{Rule}
use Rattle.settings.specs.declared.State.{State}
use Rattle.settings.specs.State.{state_of}
use Rattle.settings.specs.Bytes.{rule_bytes, rules_bytes, state_bytes, settings_bytes, rule_at, rules_at, rules_of, settings_with, settings_of, is_word, rule_fits, settings_fit}
use Rattle.settings.proofs.Decoding.{settings_made}
use Rattle.settings.proofs.Entries.{rules_spelled}
use Rattle.settings.proofs.Encoding.{rule_long, rule_back, word_back, state_length_lem}

-- ## Lengths

rules_bytes_long : (us : List Rule) → all rule_fits us ≡ true → length (rules_bytes us) ≡ 80 * length us
rules_bytes_long [] f = refl
rules_bytes_long (u ∷ us) f =
    let g = and_both (rule_fits u) _ f in
    rw (length-append, rule_long u g.0, rules_bytes_long us g.1) (omega arith)

-- what `settings_fit` says, part by part
record Fit (s : Settings) : Type 0 where
  pub time : is_word s.time ≡ true
  pub used : is_word s.used ≡ true
  pub next : is_word s.next ≡ true
  pub mode : is_word s.mode ≡ true
  pub count : is_word s.count ≡ true
  pub unit : is_word s.unit ≡ true
  pub eight : length s.rules ≡ 8
  pub rules : all rule_fits s.rules ≡ true

fit : (s : Settings) → settings_fit s ≡ true → Fit s
unfolding settings_fit
fit s f =
    let f1 = and_both (is_word s.time) _ f in
    let f2 = and_both (is_word s.used) _ f1.1 in
    let f3 = and_both (is_word s.next) _ f2.1 in
    let f4 = and_both (is_word s.mode) _ f3.1 in
    let f5 = and_both (is_word s.count) _ f4.1 in
    let f6 = and_both (is_word s.unit) _ f5.1 in
    let f7 = and_both (eqb (length s.rules) 8) _ f6.1 in
    record {
      time = f1.0;
      used = f2.0;
      next = f3.0;
      mode = f4.0;
      count = f5.0;
      unit = f6.0;
      eight = eqb-true (length s.rules) 8 f7.0;
      rules = f7.1;
    }

-- The settings are 688 bytes.
pub settings_length_lem : (s : Settings) → settings_fit s ≡ true → length (settings_bytes s) ≡ 688
unfolding settings_bytes
settings_length_lem s f =
    let g = fit s f in
    length-append (state_bytes (state_of s)) (rules_bytes s.rules) ∙ omega (arith, state_length_lem (state_of s), rules_bytes_long s.rules g.rules, g.eight)

-- ## From settings to bytes and back

rules_back : (us : List Rule) (h : List ℕ) (k a : ℕ) → length h ≡ a → length us ≡ k → all rule_fits us ≡ true → rules_at k a (h ++ rules_bytes us) ≡ us
unfolding rules_at
rules_back [] h zero a e n f = refl
rules_back [] h (suc k) a e n f = absurd (omega arith)
rules_back (u ∷ us) h zero a e n f = absurd (omega arith)
rules_back (u ∷ us) h (suc k) a e n f =
    let g = and_both (rule_fits u) _ f in
    let l : length (h ++ rule_bytes u) ≡ a + 80 = rw (length-append, rule_long u g.0) (omega arith) in
    let x : rule_at (h ++ (rule_bytes u ++ rules_bytes us)) a ≡ u = rule_back u h (rules_bytes us) a e g.0 in
    let y : rules_at k (a + 80) (h ++ (rule_bytes u ++ rules_bytes us)) ≡ us =
    rw (← append_assoc h (rule_bytes u) (rules_bytes us)) (rules_back us (h ++ rule_bytes u) k (a + 80) l (omega arith) g.1) in
    rw (x, y)

-- Settings that were written read as themselves.
pub settings_back : (s : Settings) → settings_fit s ≡ true → settings_of (settings_bytes s) ≡ s
unfolding settings_of settings_bytes spelled
settings_back s f =
    let g = fit s f in
    settings_made _ _ _ _ _ _ s.time s.used s.next s.mode s.count s.unit _ s.rules
    (word_back s.time g.time)
    (word_back s.used g.used)
    (word_back s.next g.next)
    (word_back s.mode g.mode)
    (word_back s.count g.count)
    (word_back s.unit g.unit)
    (rules_back s.rules [] 8 0 refl g.eight g.rules)

-- ## From entries to rules and back

pub entries_back : (e : List ℕ) → AllBytes e → length e ≡ 640 → rules_bytes (rules_of e) ≡ e
entries_back e b l = rules_spelled 8 0 e b (omega arith) ∙ take_all 640 e (omega arith)

-- A state and entries that are written read as themselves.
pub entries_kept : (s : State) (e : List ℕ) → AllBytes e → length e ≡ 640 → state_bytes s ++ e ≡ settings_bytes (settings_with s e)
unfolding settings_bytes
entries_kept s e b l = ap (λ (m : List ℕ). state_bytes s ++ m) (sym (entries_back e b l))
