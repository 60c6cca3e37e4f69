-- What is whole fits its bytes: settings and numbers are within eight bytes each.
use Prim.Native.Nat.{ℕ, zero, suc, ◌≤◌, ◌<◌}
use mathlib.Core.Path.{◌≡◌, refl, sym, ap, ◌∙◌}
use mathlib.Core.Logic.{inl, inr, ⊎_elim}
use mathlib.Core.Bool.{true, ◌&&◌, ◌||◌}
use mathlib.Core.List.{List, [], ◌∷◌}
use native.Mathlib.Omega.{arith}
use lib.Dec.{eqb, leb, ltb}
use lib.ListN.{length}
use borrow.Author.Tests.{eqb-true, eq-eqb, leb-true, ltb-true, lt-ltb}
use Rattle.buffers.specs.Choices.{pick}
use Rattle.buffers.specs.Lists.{all}
use Rattle.buffers.proofs.Tests.{either, and_i, and_l, and_r, or_one}
use Rattle.text.specs.Keys.{is_key, is_prefix}
use Rattle.blocks.specs.Blocks.{is_block}
use Rattle.blocks.proofs.Blocks.{block_long}
use Rattle.calendar.specs.Calendar.{latest}
use Rattle.model.specs.Rows.{Row, is_mode, is_data, is_marker, sound_retention, sound_data, sound_marker, sound_row}
use Rattle.model.specs.Settings as model
use Rattle.model.specs.Settings.{spent_number, sound_default, is_days, is_set, sound_rule, sound_rules}
use Rattle.model.proofs.SoundRows.{date_most}
use Rattle.model.proofs.Sound.{whole as sound_whole, config_default, config_rules}
use Rattle.settings.specs.declared.Rule.{Rule}
use Rattle.settings.specs.Bytes.{is_word, rule_fits, settings_fit}
use Rattle.settings.specs.Meaning.{rule_means, rules_mean, settings_mean, prefixes_are}
use Rattle.table.specs.Layout.{numbers_of, capacity}
use Rattle.bucket.specs.Whole.{Lent, used_rows, bucket_of, whole}
use Rattle.bucket.proofs.Whole.{whole_parts}

word : (n k : ℕ) → n ≤ k → k < 18446744073709551616 → is_word n ≡ true
word n k h l = lt-ltb n 18446744073709551616 (omega arith)

-- ## The settings

mode_most : (m : ℕ) → is_mode m ≡ true → m ≤ 2
mode_most m e = ⊎_elim (λ t. omega (arith, eqb-true m 1 t)) (λ t. omega (arith, eqb-true m 2 t)) (or_one (eqb m 1) _ e)

-- the ranges of a default retention
record DefaultMost (d : model.Default) : Type 0 where
  pub mode : d.mode ≤ 2
  pub count : d.count ≤ 36500
  pub unit : d.unit ≤ 2

default_most : (d : model.Default) → sound_default d ≡ true → DefaultMost d
default_most d e =
    ⊎_elim
    (λ t. record {
      mode = omega (arith, eqb-true d.mode 0 (and_l _ _ t));
      count = omega (arith, eqb-true d.count 0 (and_l _ _ (and_r (eqb d.mode 0) _ t)));
      unit = omega (arith, eqb-true d.unit 0 (and_r (eqb d.count 0) _ (and_r (eqb d.mode 0) _ t)));
    })
    (λ t. ⊎_elim
    (λ p. record {
      mode = mode_most d.mode (and_l _ _ t);
      count = leb-true d.count 36500 (and_r (eqb d.unit 1) _ p);
      unit = omega (arith, eqb-true d.unit 1 (and_l _ _ p));
    })
    (λ p. record {
      mode = mode_most d.mode (and_l _ _ t);
      count = omega (arith, leb-true d.count 100 (and_r (eqb d.unit 2) _ p));
      unit = omega (arith, eqb-true d.unit 2 (and_l _ _ p));
    })
    (or_one (eqb d.unit 1 && leb d.count 36500) _ (and_r (leb 1 d.count) _ (and_r (is_mode d.mode) _ t))))
    (or_one (eqb d.mode 0 && (eqb d.count 0 && eqb d.unit 0)) _ e)

rule_fits_lem : (u : Rule) → is_block u.prefix ≡ true → sound_rule (rule_means u) ≡ true → rule_fits u ≡ true
rule_fits_lem u f e =
    let v = rule_means u in
    let d = and_r (is_prefix v.prefix) (is_days u.current && (is_days u.noncurrent && (is_set v || eqb (length v.prefix) 0))) e in
    and_i _ _ (eq-eqb (length u.prefix) 64 (block_long u.prefix f))
    (and_i _ _ (word u.current 36500 (leb-true u.current 36500 (and_l _ _ d)) (omega arith))
    (word u.noncurrent 36500 (leb-true u.noncurrent 36500 (and_l (is_days u.noncurrent) _ (and_r (is_days u.current) _ d))) (omega arith)))

rules_fit : (us : List Rule) → prefixes_are us ≡ true → all sound_rule (rules_mean us) ≡ true → all rule_fits us ≡ true
rules_fit [] f e = refl
rules_fit (u ∷ us) f e =
    and_i (rule_fits u) _ (rule_fits_lem u (and_l _ _ f) (and_l _ _ e)) (rules_fit us (and_r (is_block u.prefix) _ f) (and_r (sound_rule (rule_means u)) _ e))

rules_many : (us : List Rule) → length (rules_mean us) ≡ length us
rules_many [] = refl
rules_many (u ∷ us) = ap suc (rules_many us)

-- Settings that are whole fit their 688 bytes.
pub whole_fits : (b : Lent) → whole b ≡ true → settings_fit b.settings ≡ true
unfolding settings_fit sound_rules
whole_fits b w =
    let s = b.settings in
    let p = whole_parts b w in
    let m = sound_whole (capacity b.keys) (bucket_of b) p.is_sound in
    let d = default_most (settings_mean s).config.default (config_default (settings_mean s).config m.config_sound) in
    let r = config_rules (settings_mean s).config m.config_sound in
    let u : s.used ≤ 1024 = omega (arith, p.room, p.most) in
    let many : length s.rules ≡ 8 = sym (rules_many s.rules) ∙ eqb-true (length (rules_mean s.rules)) 8 (and_l _ _ r) in
    and_i _ _ (word s.time latest (leb-true s.time latest m.time_fits) (omega arith))
    (and_i _ _ (word s.used 1024 u (omega arith))
    (and_i _ _ (word s.next spent_number m.next_fits (omega arith))
    (and_i _ _ (word s.mode 2 d.mode (omega arith))
    (and_i _ _ (word s.count 36500 d.count (omega arith))
    (and_i _ _ (word s.unit 2 d.unit (omega arith))
    (and_i _ _ (eq-eqb (length s.rules) 8 many)
    (rules_fit s.rules p.prefixes (and_r (eqb (length (rules_mean s.rules)) 8) _ r))))))))

-- ## The rows

-- the numbers behind a row's creation, of whatever kind it is
record Tail (x : Row) : Type 0 where
  pub kind : x.kind ≤ 2
  pub body : is_word x.body ≡ true
  pub size : x.size ≤ 5497558138880
  pub mode : x.mode ≤ 2
  pub until : x.until ≤ latest
  pub hold : x.hold ≤ 1

retained_most : (m d : ℕ) → sound_retention m d ≡ true → m ≤ 2
retained_most m d e =
    elim (either (eqb m 0)) [
      | inl t ↦ omega (arith, eqb-true m 0 t)
      | inr t ↦ let z : (is_mode m && (leb 1 d && leb d latest)) ≡ true = rw t at e in mode_most m (and_l _ _ z)
    ]

data_tail : (x : Row) → is_data x ≡ true → sound_data x ≡ true → Tail x
data_tail x k e =
    let f = and_r (is_word x.body) _ e in
    let g = and_r (leb x.size 5497558138880) _ f in
    record {
      kind = omega (arith, eqb-true x.kind 1 k);
      body = and_l _ _ e;
      size = leb-true x.size 5497558138880 (and_l _ _ f);
      mode = retained_most x.mode x.until (and_l _ _ g);
      until = date_most x.mode x.until (and_l _ _ g);
      hold = leb-true x.hold 1 (and_r (sound_retention x.mode x.until) _ g);
    }

marker_tail : (x : Row) → is_marker x ≡ true → sound_marker x ≡ true → Tail x
marker_tail x k e =
    let f = and_r (eqb x.body 0) _ e in
    let g = and_r (eqb x.size 0) _ f in
    let h = and_r (eqb x.mode 0) _ g in
    record {
      kind = omega (arith, eqb-true x.kind 2 k);
      body = word x.body 0 (omega (arith, eqb-true x.body 0 (and_l _ _ e))) (omega arith);
      size = omega (arith, eqb-true x.size 0 (and_l _ _ f));
      mode = omega (arith, eqb-true x.mode 0 (and_l _ _ g));
      until = omega (arith, eqb-true x.until 0 (and_l _ _ h));
      hold = omega (arith, eqb-true x.hold 0 (and_r (eqb x.until 0) _ h));
    }

tail : (x : Row) → pick (is_data x) (sound_data x) (is_marker x && sound_marker x) ≡ true → Tail x
tail x e =
    elim (either (is_data x)) [
      | inl t ↦ data_tail x t (rw t at e)
      | inr t ↦ let z : (is_marker x && sound_marker x) ≡ true = rw t at e in marker_tail x (and_l _ _ z) (and_r (is_marker x) _ z)
    ]

row_words : (next time : ℕ) (x : Row) (l : List ℕ) → next ≤ spent_number → time ≤ latest → sound_row next time x ≡ true → all is_word l ≡ true
    → all is_word (x.number ∷ x.kind ∷ x.created ∷ x.body ∷ x.size ∷ x.mode ∷ x.until ∷ x.hold ∷ l) ≡ true
unfolding sound_row
row_words next time x l hn ht e w =
    let f = and_r (leb 1 x.number) _ e in
    let g = and_r (ltb x.number next) _ f in
    let h = and_r (is_key x.key) _ (and_r (leb x.created time) _ g) in
    let t = tail x h in
    let number : x.number ≤ spent_number = omega (arith, ltb-true x.number next (and_l _ _ f)) in
    let created : x.created ≤ latest = omega (arith, leb-true x.created time (and_l _ _ g)) in
    and_i _ _ (word x.number spent_number number (omega arith))
    (and_i _ _ (word x.kind 2 t.kind (omega arith))
    (and_i _ _ (word x.created latest created (omega arith))
    (and_i _ _ t.body
    (and_i _ _ (word x.size 5497558138880 t.size (omega arith))
    (and_i _ _ (word x.mode 2 t.mode (omega arith))
    (and_i _ _ (word x.until latest t.until (omega arith))
    (and_i _ _ (word x.hold 1 t.hold (omega arith)) w)))))))

rows_words : (next time c : ℕ) (xs : List Row) → next ≤ spent_number → time ≤ latest → all (sound_row next time) xs ≡ true → all is_word (numbers_of c xs) ≡ true
rows_words next time zero xs hn ht e = refl
rows_words next time (suc c) [] hn ht e = rows_words next time c [] hn ht refl
rows_words next time (suc c) (x ∷ xs) hn ht e =
    row_words next time x (numbers_of c xs) hn ht (and_l _ _ e) (rows_words next time c xs hn ht (and_r (sound_row next time x) _ e))

-- Numbers that are whole fit eight bytes each.
pub whole_words : (b : Lent) → whole b ≡ true → all is_word b.numbers ≡ true
whole_words b w =
    let c = capacity b.keys in
    let p = whole_parts b w in
    let m = sound_whole c (bucket_of b) p.is_sound in
    ap (all is_word) p.holds.numbers_are ∙ rows_words b.settings.next b.settings.time c (used_rows b) m.next_fits (leb-true b.settings.time latest m.time_fits) m.rows_sound
