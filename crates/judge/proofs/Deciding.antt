-- The six conditions on the table decide: the first that holds refuses, and where none does the plan is carried out.
use Rattle.std.specs.Prelude.{Ok, Err}
use Rattle.model.specs.declared.Refusal.TheVariants.{NoRow, IsMarker, Locked, DateTooLate, NumbersSpent, TableFull}
use Rattle.judge.specs.declared.Plan.{Plan}
use Prim.Native.Nat.{ℕ, ◌+◌, ◌≤◌, ◌<◌}
use mathlib.Core.Path.{◌≡◌, refl, sym, ◌∙◌}
use mathlib.Core.Bool.{true, false}
use mathlib.Core.List.{List}
use Rattle.std.specs.Prelude.{Some, None}
use native.Mathlib.Omega.{arith}
use lib.ListN.{length}
use borrow.Author.Tests.{lt-ltb, le-ltb, le-leb, lt-leb, eq-eqb, ne_eqb}
use Rattle.buffers.proofs.Lists.{all_first}
use Rattle.calendar.specs.declared.Now.{Now}
use Rattle.model.specs.Rows.{Row, sound_row, sound_data}
use Rattle.model.specs.Settings.{Rule, Bucket, spent_number, fits}
use Rattle.model.specs.Requests.{Rights, Name, Query, Verb, Ask, name_of}
use Rattle.model.specs.Effects.{row_of, added, rows_after}
use Rattle.model.specs.Refusals.{removes_version, missing, names_marker, bars, barred, too_late, spends, full}
use Rattle.model.specs.Answers.{reply}
use Rattle.model.proofs.SoundRows.{row_data}
use Rattle.model.proofs.Room.{rows_left}
use Rattle.table.specs.declared.Numbers.{Numbers}
use Rattle.table.specs.Contents.{Contents}
use Rattle.table.specs.Places.{row_from}
use Rattle.settings.specs.declared.State.{State}
use Rattle.answers.specs.Text.{answer_text}
use Rattle.answers.specs.Meaning.{text_of}
use Rattle.outcome.specs.Decision.{does, effect, table_decision}
use Rattle.judge.specs.State.{bucket_by, Ready}
use Rattle.judge.specs.Meaning.{Judged, key_here, change_means, change_takes, Feasible, Judges}
use Rattle.judge.specs.Premises.{both}
use Rattle.judge.proofs.Looking.{StandsData}

-- ## The decision

-- Refusals 7 to 10 do not hold.
pub record Open (b : Bucket) (now : Now) (v : Verb) : Type 0 where
  pub there : missing b.rows v ≡ false
  pub no_marker : names_marker b.rows v ≡ false
  pub unbarred : barred b.rows now.judge v ≡ false
  pub in_time : too_late b.settings.config now.stamp v ≡ false

-- Where 11 and 12 do not hold either, the line is carried out.
does_effect : (c : ℕ) (b : Bucket) (now : Now) (who : Rights) (v : Verb) → Open b now v → b.settings.next + added b now v ≤ spent_number → length (rows_after b now v) ≤ c
    → table_decision c b now who v ≡ does (effect b now who v)
unfolding spends full fits
does_effect c b now who v o unspent l =
    simp (o.there, o.no_marker, o.unbarred, o.in_time, le-ltb spent_number (b.settings.next + added b now v) unspent, le-leb (length (rows_after b now v)) c l)

module _ (j : Judged) (c : ℕ) (b : Bucket) (now : Now) (who : Rights) (v : Verb) where
  pub refuse_7 : missing b.rows v ≡ true → Judges j c b.rows (Err NoRow) (table_decision c b now who v)
  refuse_7 e = record { is = rw e; feasible = (omega arith, omega arith) }

  pub refuse_8 : missing b.rows v ≡ false → names_marker b.rows v ≡ true → Judges j c b.rows (Err IsMarker) (table_decision c b now who v)
  refuse_8 e f = record { is = simp (e, f); feasible = (omega arith, omega arith) }

  pub refuse_9 : missing b.rows v ≡ false → names_marker b.rows v ≡ false → barred b.rows now.judge v ≡ true → Judges j c b.rows (Err Locked) (table_decision c b now who v)
  refuse_9 e f g = record { is = simp (e, f, g); feasible = (omega arith, omega arith) }

  pub refuse_10 : missing b.rows v ≡ false → names_marker b.rows v ≡ false → barred b.rows now.judge v ≡ false
      → too_late b.settings.config now.stamp v ≡ true → Judges j c b.rows (Err DateTooLate) (table_decision c b now who v)
  refuse_10 e f g h = record { is = simp (e, f, g, h); feasible = (omega arith, omega arith) }

  module _ (o : Open b now v) where
    pub refuse_11 : spent_number < b.settings.next + added b now v → Judges j c b.rows (Err NumbersSpent) (table_decision c b now who v)
    unfolding spends
    refuse_11 l =
        record {
          is = simp (o.there, o.no_marker, o.unbarred, o.in_time, lt-ltb spent_number (b.settings.next + added b now v) l);
          feasible = (omega arith, omega arith);
        }

    module _ (unspent : b.settings.next + added b now v ≤ spent_number) where
      pub refuse_12 : c < length (rows_after b now v) → Judges j c b.rows (Err TableFull) (table_decision c b now who v)
      unfolding spends full fits
      refuse_12 l =
          record {
            is = simp (o.there, o.no_marker, o.unbarred, o.in_time, le-ltb spent_number (b.settings.next + added b now v) unspent, lt-leb (length (rows_after b now v)) c l);
            feasible = (omega arith, omega arith);
          }

      pub accept : (p : Plan) → length (rows_after b now v) ≤ c → change_means j b.rows p.change ≡ rows_after b now v
          → change_takes p.change ≡ added b now v → text_of p.answer ≡ answer_text (reply b now who v) → Feasible j c b.rows (Ok p)
          → Judges j c b.rows (Ok p) (table_decision c b now who v)
      accept p l er et ex f = record { is = rw (er, et, ex) (sym (does_effect c b now who v o unspent l)); feasible = f }

-- ## A verb that adds no row

-- There are enough numbers and rows.
pub stay_done : (j : Judged) (s : State) (table : Contents) (rules : List Rule) (now : ℕ) (who : Rights) (v : Verb) (p : Plan) → Ready s table
    → Open (bucket_by s rules table.rows) (both now) v → added (bucket_by s rules table.rows) (both now) v ≡ 0
    → change_means j table.rows p.change ≡ rows_after (bucket_by s rules table.rows) (both now) v → change_takes p.change ≡ 0
    → text_of p.answer ≡ answer_text (reply (bucket_by s rules table.rows) (both now) who v) → Feasible j table.room table.rows (Ok p)
    → Judges j table.room table.rows (Ok p) (table_decision table.room (bucket_by s rules table.rows) (both now) who v)
stay_done j s table rules now who v p ready o zero_added er et ex f =
    let left = rows_left (bucket_by s rules table.rows) (both now) v ready.in_order o.there in
    let z = ready.used_is in
    let l = ready.used_fits in
    let m = ready.next_fits in
    accept j table.room (bucket_by s rules table.rows) (both now) who v o (omega arith) p (omega arith) er (et ∙ sym zero_added) ex f

-- What asks without naming a row meets none of 7 to 10.
pub asks_open : (b : Bucket) (now : Now) (q : Query) → name_of (Ask q) ≡ None → Open b now (Ask q)
unfolding missing names_marker barred too_late
asks_open b now q e = record { there = rw e; no_marker = rw e; unbarred = rw e; in_time = refl }

-- It meets no refusal on the table.
pub asks_does : (s : State) (table : Contents) (rules : List Rule) (now : ℕ) (who : Rights) (q : Query) → name_of (Ask q) ≡ None → Ready s table
    → let b = bucket_by s rules table.rows in table_decision table.room b (both now) who (Ask q) ≡ does (effect b (both now) who (Ask q))
unfolding added rows_after
asks_does s table rules now who q e ready =
    does_effect table.room (bucket_by s rules table.rows) (both now) who (Ask q) (asks_open _ (both now) q e)
    (omega (arith, ready.next_fits)) (omega (arith, ready.used_is, ready.used_fits))

-- ## The row that a line names

module _ (xs : List Row) (v : Verb) (n : Name) (named : name_of v ≡ Some n) where
  pub absent : row_of xs n ≡ None → missing xs v ≡ true
  unfolding missing
  absent e = rw (named, e)

  module _ (x : Row) (e : row_of xs n ≡ Some x) where
    pub present : missing xs v ≡ false
    unfolding missing
    present = rw (named, e)

    pub marker_named : removes_version v ≡ false → x.kind ≡ 2 → names_marker xs v ≡ true
    unfolding names_marker
    marker_named r k = rw (r, named, e) (eq-eqb x.kind 2 k)

    pub no_marker_named : removes_version v ≡ false → (x.kind ≡ 2 → ⊥) → names_marker xs v ≡ false
    unfolding names_marker
    no_marker_named r k = rw (r, named, e) (ne_eqb x.kind 2 k)

    pub named_bars : (t : ℕ) → barred xs t v ≡ bars v t x
    unfolding barred
    named_bars t = rw (named, e)

-- A row of a ready table that is no marker is sound as data.
pub data_sound : (s : State) (table : Contents) (m : Name) (i : ℕ) (n : Numbers) → Ready s table → StandsData table.rows m i n
    → sound_data (row_from n (key_here table.rows i)) ≡ true
data_sound s table m i n ready h =
    let x = row_from n (key_here table.rows i) in
    (row_data s.next s.time x (all_first (sound_row s.next s.time) _ table.rows x ready.rows_sound h.at.row_is) (ne_eqb n.kind 2 h.no_marker)).1
