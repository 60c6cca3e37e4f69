-- SWEEP, DEFAULT and RULE, on each way through the code.
use Rattle.model.specs.declared.Fate.{Fate}
use Rattle.std.specs.Prelude.{Ok, Err}
use Rattle.model.specs.declared.Refusal.TheVariants.{NumbersSpent, TableFull}
use Prim.Native.Nat.{ℕ, ◌+◌, ◌-◌, ◌≤◌, ◌<◌}
use mathlib.Core.Path.{◌≡◌, refl}
use mathlib.Core.Bool.{true}
use mathlib.Core.List.{List, map}
use Rattle.std.specs.Prelude.{None}
use native.Mathlib.Omega.{arith}
use lib.Dec.{eqb, leb}
use Rattle.std.proofs.lemmas.List.{length-map}
use lib.ListN.{length, take}
use Rattle.buffers.specs.Lists.{all}
use Rattle.buffers.proofs.Tests.{and_i, and_l, and_r}
use Rattle.buffers.proofs.Lists.{all_as, all_at}
use Rattle.text.specs.Keys.{is_prefix}
use Rattle.calendar.specs.Calendar.{latest}
use Rattle.model.specs.Rows.{Row, sound_row}
use Rattle.model.specs.Settings as model
use Rattle.model.specs.Requests.{Rights, Setting, Verb, Set, Sweep}
use Rattle.model.specs.Sweep.{marks, removes, swept, counted, fates}
use Rattle.model.specs.Effects.{added, removed, rows_after}
use Rattle.model.specs.Refusals.{missing, names_marker, barred, too_late}
use Rattle.model.specs.Answers.{reply}
use Rattle.model.proofs.SoundRows.{row_parts}
use Rattle.model.proofs.Room.{length_swept}
use Rattle.settings.specs.declared.State.{State}
use Rattle.settings.specs.Bytes.{rules_of}
use Rattle.settings.specs.Meaning.{rules_mean}
use Rattle.table.specs.Contents.{Contents, contents, spare_row, row_no}
use Rattle.lifecycle.specs.declared.Counts.{Counts}
use Rattle.lifecycle.specs.Days.{few_days}
use Rattle.lifecycle.specs.Judging.{Judgeable, JudgedRows}
use Rattle.lifecycle.proofs.Fates.{fates_after_lem, after_long}
use Rattle.answers.specs.declared.Answer.TheVariants.{Done, Swept}
use Rattle.judge.specs.declared.Change.TheVariants as change
use Rattle.judge.specs.State.{bucket_by}
use Rattle.judge.specs.Premises.{both, Asked, Sweepable, JudgesBy}
use Rattle.judge.proofs.Deciding.{Open, refuse_11, refuse_12, accept, stay_done}

-- ## DEFAULT and RULE

pub set_done : (s : State) (numbers keys line : List ℕ) (now : ℕ) (who : Rights) (rules : List model.Rule) (fates : List Fate) (v : Setting) → Asked s (contents numbers keys s.used) now (Set v)
    → JudgesBy s (contents numbers keys s.used) line now who rules fates (Set v) (Ok (record { change = change.Keep; answer = Done }))
unfolding missing names_marker barred too_late added rows_after reply
set_done s numbers keys line now who rules fates v asked =
    stay_done _ s (contents numbers keys s.used) rules now who (Set v) (record { change = change.Keep; answer = Done }) asked.ready
    (record { there = refl; no_marker = refl; unbarred = refl; in_time = refl }) refl refl refl refl (tt, tt)

-- ## SWEEP

-- The days of sound rules are at most 36500.
sound_days : (us : List model.Rule) → model.sound_rules us ≡ true → all few_days us ≡ true
unfolding model.sound_rules
sound_days us e = all_as model.sound_rule few_days few us (and_r (eqb (length us) 8) _ e)
  where
    few : (u : model.Rule) → model.sound_rule u ≡ true → few_days u ≡ true
    few u f =
        let g = and_r (is_prefix u.prefix) _ f in
        and_i (leb u.current_days 36500) _ (and_l _ _ g) (and_l _ _ (and_r (leb u.current_days 36500) _ g))

module _ {A : Type 0} (s : State) (t : Contents) (now : ℕ) (entries : List ℕ) (fs : List A) (v : Verb) (asked : Asked s t now v) (ready_rules : Sweepable s entries fs) where
  -- What lifecycle's judgement asks.
  pub sweep_asks : Judgeable t.rows (rules_of entries)
  sweep_asks =
      record {
        dated = record { instants = instants };
        few = omega (arith, asked.ready.used_is, asked.ready.used_fits, asked.ready.capacity_fits);
        prefixes = ready_rules.prefixes;
        days = sound_days (rules_mean (rules_of entries)) ready_rules.rules_sound;
      }
    where
      instants : (i : ℕ) → i < length t.rows → (row_no t.rows i).created ≤ latest
      instants i l =
          let e = all_at (sound_row s.next s.time) t.rows i spare_row l asked.ready.rows_sound in
          omega (arith, (row_parts s.next s.time (row_no t.rows i) e).by_now, asked.since, asked.instant)

  pub sweep_fits : length t.rows ≤ length fs
  sweep_fits = omega (arith, asked.ready.used_is, ready_rules.long)

-- How many rows a sweep leaves.
swept_length : (us : List model.Rule) (now next : ℕ) (xs : List Row) → length (swept us (both now) next None xs) + counted removes us now None xs ≡ length xs + counted marks us now None xs
swept_length us now next xs = length_swept us (both now) next None xs

sweep_open : (s : State) (us : List model.Rule) (xs : List Row) (now : ℕ) → Open (bucket_by s us xs) (both now) Sweep
unfolding missing names_marker barred too_late
sweep_open s us xs now = record { there = refl; no_marker = refl; unbarred = refl; in_time = refl }

module _ {A : Type 0} (cell : Fate → A) (fate_in : A → Fate) (s : State) (t : Contents) (line : List ℕ) (now : ℕ) (who : Rights) (us : List model.Rule) (entry fs : List A) (n : Counts)
    (asked : Asked s t now Sweep) (judged : JudgedRows cell us now t.rows entry fs n) where
  pub sweep_spent : model.spent_number - s.next < n.added → JudgesBy s t line now who us (map fate_in fs) Sweep (Err NumbersSpent)
  unfolding added
  sweep_spent l =
      refuse_11 _ t.room (bucket_by s us t.rows) (both now) who Sweep (sweep_open s us t.rows now)
      (let a = judged.added.is in omega arith)

  module _ (enough : n.added ≤ model.spent_number - s.next) where
    left : s.next + n.added ≤ model.spent_number
    left = omega (arith, asked.ready.next_fits)

    pub sweep_full : (room : ℕ) → room ≡ t.room → room < s.used - n.removed + n.added → JudgesBy s t line now who us (map fate_in fs) Sweep (Err TableFull)
    unfolding added rows_after
    sweep_full room q l =
        refuse_12 _ t.room (bucket_by s us t.rows) (both now) who Sweep (sweep_open s us t.rows now)
        (rw judged.added.is at left)
        (let z = asked.ready.used_is in
        let e = swept_length us now s.next t.rows in
        let a = judged.added.is in
        let r = judged.removed.is in
        omega arith)

    pub sweep_done : ((f : Fate) → fate_in (cell f) ≡ f) → (room : ℕ) → room ≡ t.room → s.used - n.removed + n.added ≤ room
        → JudgesBy s t line now who us (map fate_in fs) Sweep (Ok (record { change = change.Sweep n.removed n.added; answer = Swept n.removed n.added }))
    unfolding added rows_after removed reply
    sweep_done back room w l =
        let z = asked.ready.used_is in
        let e = swept_length us now s.next t.rows in
        let a = judged.added.is in
        let r = judged.removed.is in
        let q = judged.removed.most in
        let f : take (length t.rows) (map fate_in fs) ≡ fates us now None t.rows = rw judged.fates_are (fates_after_lem cell fate_in back us now t.rows entry) in
        let h : length t.rows ≤ length fs = rw judged.fates_are (after_long cell fate_in back us now t.rows entry) in
        let o : length t.rows ≤ length (map fate_in fs) = omega (arith, h, length-map fs fate_in) in
        accept _ t.room (bucket_by s us t.rows) (both now) who Sweep (sweep_open s us t.rows now)
        (rw judged.added.is at left)
        (record { change = change.Sweep n.removed n.added; answer = Swept n.removed n.added })
        (omega arith)
        (rw f)
        a
        (rw (a, r))
        ((rw f r, rw f a, omega arith, omega arith, left, o), tt)

pub ruleset sweep_ways = (sweep_asks, sweep_fits, sweep_spent, sweep_full, sweep_done)
