-- An accepted line leaves a sound bucket sound, and so does every list of lines.
use Prim.Native.Nat.{ℕ, ◌+◌, ◌≤◌}
use mathlib.Core.Path.{◌≡◌, refl}
use mathlib.Core.Logic.{inl, inr}
use mathlib.Core.Bool.{Bool, true, false, ◌&&◌, true≢false}
use mathlib.Core.List.{List}
use Rattle.std.specs.Prelude.{Option, Some, None}
use native.Mathlib.Omega.{arith}
use lib.Dec.{eqb, leb, ltb}
use lib.ListN.{length, set, length-set}
use borrow.Author.Tests.{ltb-false, leb-true, le-leb, not-false}
use Rattle.buffers.specs.Choices.{pick, is_some, or_zero}
use Rattle.buffers.specs.Lists.{all}
use Rattle.buffers.proofs.Tests.{either, and_i, and_l, and_r, or_r}
use Rattle.buffers.proofs.Lists.{all_as, all_keep, all_first, all_set}
use Rattle.text.specs.Keys.{is_key, is_prefix}
use Rattle.calendar.specs.declared.Now.{Now}
use Rattle.calendar.specs.Calendar.{latest}
use Rattle.model.specs.Rows.{Row, is_mode, ordered, sound_data, sound_row, bodies, largest_size}
use Rattle.model.specs.Settings.{Rule, Config, Bucket, absent_rule, spent_number, is_days, is_set, sound_default, sound_rule, sound_rules, sound_config, fits, sound}
use Rattle.model.specs.Requests.{Name, Retention, Terms, Period, Setting, DefaultRetention, LifecycleRule, Verb, Put, Copy, Retain, Hold, AddMarker, DeleteVersion, Set, Sweep, Ask, Context, Request, says, is_mode_field, is_period_field, is_name, is_retention, is_setting, in_range}
use Rattle.model.specs.Time.{now_of}
use Rattle.model.specs.Sweep.{marks, counted}
use Rattle.model.specs.Effects.{row_of, is_named, set_retention, set_hold, hold_number, added, rows_after, default_from, set_config, config_after, after}
use Rattle.model.specs.Retries.{meant, meaning}
use Rattle.model.specs.Refusals.{one_of, setting_half, half_given, past_date, missing, names_marker, too_late, spends, full, refusal}
use Rattle.model.proofs.Order.{all_insert, ordered_insert, ordered_keep, ordered_change}
use Rattle.model.proofs.Sweeping.{all_swept, ordered_swept}
use Rattle.model.proofs.Accepted.{Accepted, accepted_line}
use Rattle.model.proofs.SoundRows.{row_parts, row_later, row_data, marker_sound, retention_sound, hold_sound, given_sound, new_sound, named_sound}

-- ## The parts of a sound bucket

pub record Whole (c : ℕ) (b : Bucket) : Type 0 where
  pub time_fits : leb b.settings.time latest ≡ true
  pub from_one : 1 ≤ b.settings.next
  pub next_fits : b.settings.next ≤ spent_number
  pub config_sound : sound_config b.settings.config ≡ true
  pub in_order : ordered b.rows ≡ true
  pub rows_sound : all (sound_row b.settings.next b.settings.time) b.rows ≡ true

pub whole : (c : ℕ) (b : Bucket) → sound c b ≡ true → Whole c b
unfolding sound
whole c b e =
    record {
      time_fits = search (and_l, and_r);
      from_one = leb-true 1 b.settings.next (search (and_l, and_r));
      next_fits = leb-true b.settings.next spent_number (search (and_l, and_r));
      config_sound = search (and_l, and_r);
      in_order = search (and_l, and_r);
      rows_sound = search (and_l, and_r);
    }

pub config_default : (s : Config) → sound_config s ≡ true → sound_default s.default ≡ true
unfolding sound_config
config_default s e = and_l _ _ e

pub config_rules : (s : Config) → sound_config s ≡ true → sound_rules s.rules ≡ true
unfolding sound_config
config_rules s e = and_r (sound_default s.default) _ e

-- ## The order of the table after a line

-- Every number is below the next.
pub below_next : (n t : ℕ) (xs : List Row) → all (sound_row n t) xs ≡ true → all (λ x. ltb x.number n) xs ≡ true
unfolding sound_row
below_next n t xs e = all_as (sound_row n t) (λ x. ltb x.number n) (λ x p. search (and_l, and_r)) xs e

ordered_after : (c : ℕ) (b : Bucket) (now : Now) (w : Verb) → Whole c b → ordered (rows_after b now w) ≡ true
unfolding rows_after
ordered_after c b now (Put k body size t) s = ordered_insert _ b.rows (below_next _ _ b.rows s.rows_sound) s.in_order
ordered_after c b now (Copy n k t) s = ordered_insert _ b.rows (below_next _ _ b.rows s.rows_sound) s.in_order
ordered_after c b now (Retain n r y) s = ordered_change (is_named b.rows n) (set_retention (or_zero r.mode) (or_zero r.date)) (λ _ _. refl) (λ _ _. refl) b.rows s.in_order
ordered_after c b now (Hold n on) s = ordered_change (is_named b.rows n) (set_hold (hold_number on)) (λ _ _. refl) (λ _ _. refl) b.rows s.in_order
ordered_after c b now (AddMarker k y) s = ordered_insert _ b.rows (below_next _ _ b.rows s.rows_sound) s.in_order
ordered_after c b now (DeleteVersion k v y) s = ordered_keep _ b.rows s.in_order
ordered_after c b now (Set a) s = s.in_order
ordered_after c b now Sweep s = ordered_swept b.settings.config.rules now b.settings.next None b.rows (below_next _ _ b.rows s.rows_sound) s.in_order
ordered_after c b now (Ask q) s = s.in_order

-- ## The rows after a line

-- The table's rows, judged by the settings after the line.
later_rows : (c : ℕ) (b : Bucket) (n t : ℕ) → Whole c b → b.settings.next ≤ n → b.settings.time ≤ t → all (sound_row n t) b.rows ≡ true
later_rows c b n t s l m = all_as (sound_row b.settings.next b.settings.time) (sound_row n t) (λ x e. row_later _ _ n t x l m e) b.rows s.rows_sound

on_or_off : (on : Bool) → leb (hold_number on) 1 ≡ true
on_or_off true = refl
on_or_off false = refl

module _ (c : ℕ) (b : Bucket) (g : Context) (now : Now) (s : Whole c b) (l : b.settings.time ≤ now.stamp) where
  rows_put : (k : List ℕ) (body size : ℕ) (t : Terms) → Accepted c b g now (Put k body size t) → all (sound_row (b.settings.next + 1) now.stamp) (rows_after b now (Put k body size t)) ≡ true
  unfolding rows_after in_range half_given past_date too_late
  rows_put k body size t p =
      let r : (is_key k && (ltb body bodies && (leb size largest_size && is_retention t.retention))) ≡ true = p.fields.is_in_range in
      all_insert _ _ b.rows
      (new_sound b.settings now.stamp k body size t s.from_one (and_l _ _ r) (search (and_l, and_r)) (search (and_l, and_r)) (config_default b.settings.config s.config_sound) (search (and_l, and_r)) p.fields.not_half p.fields.future p.in_time)
      (later_rows c b _ now.stamp s (omega arith) l)

  rows_copy : (n : Name) (k : List ℕ) (t : Terms) → Accepted c b g now (Copy n k t) → all (sound_row (b.settings.next + 1) now.stamp) (rows_after b now (Copy n k t)) ≡ true
  unfolding rows_after in_range half_given past_date too_late missing names_marker
  rows_copy n k t p = go (row_of b.rows n) refl
    where
      go : (o : Option Row) → row_of b.rows n ≡ o → all (sound_row (b.settings.next + 1) now.stamp) (rows_after b now (Copy n k t)) ≡ true
      go None q = absurd (true≢false (rw q at p.present))
      go (Some x) q =
          let d : sound_data x ≡ true = (row_data _ _ x (all_first (sound_row b.settings.next b.settings.time) _ b.rows x s.rows_sound q) (rw q at p.no_marker)).1 in
          let r : (is_name n && (is_key k && is_retention t.retention)) ≡ true = p.fields.is_in_range in
          all_insert _ _ b.rows
          (new_sound b.settings now.stamp k _ _ t s.from_one (search (and_l, and_r)) (rw q (search and_l)) (rw q (search (and_l, and_r))) (config_default b.settings.config s.config_sound) (search (and_l, and_r)) p.fields.not_half p.fields.future p.in_time)
          (later_rows c b _ now.stamp s (omega arith) l)

  rows_retain : (n : Name) (r : Retention) (y : Bool) → Accepted c b g now (Retain n r y) → (m : ℕ) → b.settings.next ≤ m → all (sound_row m now.stamp) (rows_after b now (Retain n r y)) ≡ true
  unfolding rows_after in_range half_given past_date missing names_marker
  rows_retain n r y p m h =
      let ranges : is_retention r ≡ true = and_r (is_name n) _ p.fields.is_in_range in
      let f = given_sound now.stamp r.mode r.date (and_l _ _ ranges) (and_r (is_mode_field r.mode) _ ranges) p.fields.not_half p.fields.future in
      named_sound m now.stamp n _ (λ x e k. retention_sound m now.stamp (or_zero r.mode) (or_zero r.date) x e k f) b.rows s.in_order p.present p.no_marker (later_rows c b m now.stamp s h l)

  rows_hold : (n : Name) (on : Bool) → Accepted c b g now (Hold n on) → (m : ℕ) → b.settings.next ≤ m → all (sound_row m now.stamp) (rows_after b now (Hold n on)) ≡ true
  unfolding rows_after missing names_marker
  rows_hold n on p m h =
      named_sound m now.stamp n _ (λ x e k. hold_sound m now.stamp (hold_number on) x e k (on_or_off on)) b.rows s.in_order p.present p.no_marker (later_rows c b m now.stamp s h l)

  rows_after_lem : (w : Verb) → Accepted c b g now w → all (sound_row (b.settings.next + added b now w) now.stamp) (rows_after b now w) ≡ true
  unfolding rows_after added in_range
  rows_after_lem (Put k body size t) p = rows_put k body size t p
  rows_after_lem (Copy n k t) p = rows_copy n k t p
  rows_after_lem (Retain n r y) p = rows_retain n r y p _ (omega arith)
  rows_after_lem (Hold n on) p = rows_hold n on p _ (omega arith)
  rows_after_lem (AddMarker k y) p =
      all_insert _ _ b.rows (marker_sound now.stamp _ b.settings.next k s.from_one (omega arith) p.fields.is_in_range) (later_rows c b _ now.stamp s (omega arith) l)
  rows_after_lem (DeleteVersion k v y) p = all_keep _ _ b.rows (later_rows c b _ now.stamp s (omega arith) l)
  rows_after_lem (Set a) p = later_rows c b _ now.stamp s (omega arith) l
  rows_after_lem Sweep p =
      all_swept (sound_row (b.settings.next + counted marks b.settings.config.rules now.judge None b.rows) now.stamp) b.settings.config.rules now b.settings.next _
      (λ x m e i j. marker_sound now.stamp _ m x.key (omega (arith, s.from_one)) j (row_parts _ _ x e).key_fits)
      b.settings.next None b.rows (omega arith) (omega arith) (later_rows c b _ now.stamp s (omega arith) l)
  rows_after_lem (Ask q) p = later_rows c b _ now.stamp s (omega arith) l

-- ## The settings after a line

default_set : (m : Option ℕ) (p : Option Period) → is_mode_field m ≡ true → is_period_field p ≡ true → one_of (is_some m) (is_some p) ≡ false → sound_default (default_from m p) ≡ true
default_set None None e f h = refl
default_set None (Some p) e f h = absurd (true≢false h)
default_set (Some m) None e f h = absurd (true≢false h)
default_set (Some m) (Some p) e f h = or_r (eqb m 0 && (eqb p.count 0 && eqb p.unit 0)) _ (and_i (is_mode m) _ e f)

rule_set : (u : Rule) → is_prefix u.prefix ≡ true → is_days u.current_days ≡ true → is_days u.noncurrent_days ≡ true → sound_rule (pick (is_set u) u absent_rule) ≡ true
unfolding is_prefix
rule_set u f g h =
    elim (either (is_set u)) [
      | inl e ↦ rw e (and_i (is_prefix u.prefix) _ f (and_i (is_days u.current_days) _ g (and_i (is_days u.noncurrent_days) _ h (rw e))))
      | inr e ↦ rw e
    ]

rules_set : (us : List Rule) (i : ℕ) (u : Rule) → sound_rule u ≡ true → sound_rules us ≡ true → sound_rules (set us i u) ≡ true
unfolding sound_rules
rules_set us i u e s =
    and_i (eqb (length (set us i u)) 8) _ (rw (length-set us i u) (and_l _ _ s)) (all_set sound_rule us i u e (and_r (eqb (length us) 8) _ s))

config_set : (a : Setting) (s : Config) → is_setting a ≡ true → setting_half a ≡ false → sound_config s ≡ true → sound_config (set_config a s) ≡ true
unfolding set_config sound_config
config_set (DefaultRetention m p) s r h d =
    and_i (sound_default (default_from m p)) _ (default_set m p (and_l _ _ r) (and_r (is_mode_field m) _ r) h) (config_rules s d)
config_set (LifecycleRule i u) s r h d =
    let f = rule_set u (search (and_l, and_r)) (search (and_l, and_r)) (search (and_l, and_r)) in
    and_i (sound_default s.default) _ (config_default s d) (rules_set s.rules i (pick (is_set u) u absent_rule) f (config_rules s d))

config_after_lem : (s : Config) (w : Verb) → in_range w ≡ true → half_given w ≡ false → sound_config s ≡ true → sound_config (config_after s w) ≡ true
unfolding config_after in_range half_given
config_after_lem s (Put k body size t) r h d = d
config_after_lem s (Copy n k t) r h d = d
config_after_lem s (Retain n t y) r h d = d
config_after_lem s (Hold n on) r h d = d
config_after_lem s (AddMarker k y) r h d = d
config_after_lem s (DeleteVersion k v y) r h d = d
config_after_lem s (Set a) r h d = config_set a s r h d
config_after_lem s Sweep r h d = d
config_after_lem s (Ask q) r h d = d

-- ## The whole

-- The rows after a line fit the settings after it.
fits_after : (c : ℕ) (b : Bucket) (now : Now) (w : Verb) → full c b now w ≡ false → fits c (config_after b.settings.config w) (rows_after b now w) ≡ true
unfolding fits full
fits_after c b now w p = not-false _ p

next_after : (b : Bucket) (now : Now) (w : Verb) → spends b now w ≡ false → b.settings.next + added b now w ≤ spent_number
unfolding spends
next_after b now w p = ltb-false spent_number (b.settings.next + added b now w) p

-- An accepted line leaves a sound bucket sound.
pub sound_after : (c : ℕ) (b : Bucket) (q : Request) → refusal c b (says q) ≡ 0 → sound c (after b (meaning b q)) ≡ true
unfolding sound
sound_after c b q e =
    let p = accepted_line c b q e in
    let w = whole c b p.fields.whole in
    let g = q.context in
    let v = meant b.rows q.verb in
    let clock_fits = leb-true g.clock latest p.fields.instant in
    let old_fits = leb-true b.settings.time latest w.time_fits in
    let s₁ = fits_after c b (now_of b g) v p.fitting in
    let s₂ : leb (now_of b g).stamp latest ≡ true = le-leb (now_of b g).stamp latest (omega arith) in
    let s₃ : leb 1 (b.settings.next + added b (now_of b g) v) ≡ true = le-leb 1 (b.settings.next + added b (now_of b g) v) (omega (arith, w.from_one)) in
    let s₄ : leb (b.settings.next + added b (now_of b g) v) spent_number ≡ true = le-leb (b.settings.next + added b (now_of b g) v) spent_number (next_after b (now_of b g) v p.unspent) in
    let s₅ = config_after_lem b.settings.config v p.fields.is_in_range p.fields.not_half w.config_sound in
    let s₆ = ordered_after c b (now_of b g) v w in
    let s₇ = rows_after_lem c b g (now_of b g) w (omega arith) v p in
    search and_i depth 12
