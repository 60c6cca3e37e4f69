-- RETAIN, HOLD, GET and DELETE with a number: the row that the line names, on each way through the code.
use Rattle.model.specs.declared.Fate.{Fate}
use Rattle.std.specs.Prelude.{Result, Ok, Err, ◌==◌, if◌then◌else◌}
use Rattle.model.specs.declared.Refusal.{Refusal}
use Rattle.model.specs.declared.Refusal.TheVariants.{IsMarker, Locked}
use Prim.Native.Nat.{ℕ, ◌≤◌}
use mathlib.Core.Path.{◌≡◌, refl, sym, ap, ◌∙◌}
use mathlib.Core.Logic.{inl, inr}
use mathlib.Core.Bool.{Bool, true, false, not}
use mathlib.Core.List.{List, []}
use Rattle.std.specs.Prelude.{Some}
use native.Mathlib.Omega.{arith}
use lib.Dec.{eqb, leb, ltb}
use borrow.Author.Tests.{eqb-true}
use Rattle.buffers.specs.Choices.{or_zero}
use Rattle.buffers.proofs.Tests.{either, and_l, and_r}
use Rattle.calendar.specs.Calendar.{latest}
use Rattle.model.specs.Rows.{bodies, largest_size, is_marker}
use Rattle.model.specs.Settings.{Rule}
use Rattle.model.specs.Requests.{Rights, numbered, Name, name, Retention, Verb, Retain, Hold, DeleteVersion, Ask, Get, name_of}
use Rattle.model.specs.Locks.{locked, admits}
use Rattle.model.specs.Effects.{set_retention, set_hold, hold_number, added, rows_after}
use Rattle.model.specs.Refusals.{removes_version, names_marker, bars, too_late}
use Rattle.model.specs.Answers.{reply}
use Rattle.model.proofs.SoundRows.{date_most}
use Rattle.table.specs.declared.Numbers.{Numbers}
use Rattle.table.specs.Contents.{Contents}
use Rattle.table.specs.Places.{row_from}
use Rattle.settings.specs.declared.State.{State}
use Rattle.search.proofs.Named.{change_named, remove_named}
use Rattle.answers.specs.declared.Answer.TheVariants.{Done, Removed, RemovedMarker, Got}
use Rattle.judge.specs.declared.Change.TheVariants.{Keep, Rewrite, Remove}
use Rattle.judge.specs.declared.Named.{Named}
use Rattle.judge.specs.State.{bucket_by, Ready}
use Rattle.judge.specs.Meaning.{key_here}
use Rattle.model.specs.Refusal.{◌>>=◌}
use Rattle.judge.specs.Named.{row_named, data_named}
use Rattle.judge.specs.Premises.{both, JudgesBy}
use Rattle.judge.proofs.Looking.{Stands, StandsData, lacks, stands, stands_data}
use Rattle.judge.proofs.Deciding.{Open, refuse_7, refuse_8, refuse_9, stay_done, absent, present, marker_named, no_marker_named, named_bars, data_sound}

-- ## The row is not there, or it is a marker

module _ (s : State) (table : Contents) (line : List ℕ) (now : ℕ) (v : Verb) (m : Name) (r : Result Named Refusal) (k : Refusal) (there : r ≡ Err k)
    (is_name : name_of v ≡ Some m) (ready : Ready s table) (who : Rights) (rules : List Rule) (fates : List Fate) where
  pub row_refused : r ≡ row_named table.rows m → JudgesBy s table line now who rules fates v (Err k)
  row_refused e =
      let l = lacks table.rows m ready.in_order k (sym e ∙ there) in
      rw l.is
      (refuse_7 _ table.room (bucket_by s rules table.rows) (both now) who v (absent table.rows v m is_name l.is_absent))

  marker_barred : removes_version v ≡ false → (w : Named) → row_named table.rows m ≡ Ok w → w.numbers.kind ≡ 2 → JudgesBy s table line now who rules fates v (Err IsMarker)
  marker_barred a w e h =
      let at = stands table.rows m ready.in_order w e in
      refuse_8 _ table.room (bucket_by s rules table.rows) (both now) who v
      (present table.rows v m is_name _ at.row_is) (marker_named table.rows v m is_name _ at.row_is a h)

-- What is named is no data.
pub data_refused : (s : State) (table : Contents) (line : List ℕ) (now : ℕ) (v : Verb) (m : Name) (r : Result Named Refusal) (k : Refusal) → r ≡ Err k → name_of v ≡ Some m
    → removes_version v ≡ false → Ready s table → (who : Rights) (rules : List Rule) (fates : List Fate) → r ≡ data_named table.rows m
    → JudgesBy s table line now who rules fates v (Err k)
unfolding data_named
data_refused s table line now v m r k there is_name a ready who rules fates e = go (row_named table.rows m) refl (sym e ∙ there)
  where
    go : (q : Result Named Refusal) → row_named table.rows m ≡ q → (q >>= (λ w. if w.numbers.kind == 2 then Err IsMarker else Ok w)) ≡ Err k → JudgesBy s table line now who rules fates v (Err k)
    go (Err l) f g = row_refused s table line now v m (row_named table.rows m) k (f ∙ g) is_name ready who rules fates refl
    go (Ok w) f g =
        elim (either (eqb w.numbers.kind 2)) [
          | inl h ↦
              let d : ◌≡◌ {A = Result Named Refusal} (Err IsMarker) (Err k) = rw h at g in
              let q : IsMarker ≡ k = cc in
              rw (sym q) (marker_barred s table line now v m r k there is_name ready who rules fates a w f (eqb-true w.numbers.kind 2 h))
          | inr h ↦ let d : Ok w ≡ Err k = rw h at g in let z : ◌≡◌ {A = ℕ} 0 1 = cc in absurd (omega arith)
        ]

-- ## RETAIN, HOLD and GET

-- The date that GET shows is an instant.
shown_date : (s : State) (table : Contents) (m : Name) (i : ℕ) (n : Numbers) → Ready s table → StandsData table.rows m i n → n.until ≤ latest
shown_date s table m i n ready h =
    let d = data_sound s table m i n ready h in
    date_most n.mode n.until (and_l _ _ (and_r (leb n.size largest_size) _ (and_r (ltb n.body bodies) _ d)))

-- The row that is named is there, and it is no marker.
module _ (s : State) (table : Contents) (now : ℕ) (rules : List Rule) (v : Verb) (m : Name) (i : ℕ) (n : Numbers)
    (is_name : name_of v ≡ Some m) (h : StandsData table.rows m i n) (stays : removes_version v ≡ false) where
  data_open : bars v now (row_from n (key_here table.rows i)) ≡ false → too_late (bucket_by s rules table.rows).settings.config now v ≡ false
      → Open (bucket_by s rules table.rows) (both now) v
  data_open b t =
      record {
        there = present table.rows v m is_name _ h.at.row_is;
        no_marker = no_marker_named table.rows v m is_name _ h.at.row_is stays h.no_marker;
        unbarred = named_bars table.rows v m is_name _ h.at.row_is now ∙ b;
        in_time = t;
      }

module _ (s : State) (table : Contents) (line : List ℕ) (now : ℕ) (m : Name) (w : Named) (r : Result Named Refusal)
    (there : r ≡ Ok w) (found : r ≡ data_named table.rows m) (ready : Ready s table) (who : Rights) (rules : List Rule) (fates : List Fate) where
  standing : StandsData table.rows m w.at w.numbers
  standing = stands_data table.rows m ready.in_order w (sym found ∙ there)

  at : Stands table.rows m w.at w.numbers
  at = standing.at

  module _ (q : Retention) (y a : Bool) (admitted : (l : List ℕ) → a ≡ admits now y (row_from w.numbers l) q) where
    pub retain_barred : a ≡ false → JudgesBy s table line now who rules fates (Retain m q y) (Err Locked)
    retain_barred e =
        refuse_9 _ table.room (bucket_by s rules table.rows) (both now) who (Retain m q y)
        (present table.rows (Retain m q y) m refl _ at.row_is)
        (no_marker_named table.rows (Retain m q y) m refl _ at.row_is refl standing.no_marker)
        (named_bars table.rows (Retain m q y) m refl _ at.row_is now ∙ ap not (sym (admitted (key_here table.rows w.at)) ∙ e))

    pub retain_done : (n' : Numbers) → a ≡ true
        → ((l : List ℕ) → row_from n' l ≡ set_retention (or_zero q.mode) (or_zero q.date) (row_from w.numbers l))
        → JudgesBy s table line now who rules fates (Retain m q y) (Ok (record { change = Rewrite w.at n'; answer = Done }))
    unfolding added rows_after reply too_late
    retain_done n' e new =
        stay_done _ s table rules now who (Retain m q y) (record { change = Rewrite w.at n'; answer = Done }) ready
        (data_open s table now rules (Retain m q y) m w.at w.numbers refl standing refl (ap not (sym (admitted (key_here table.rows w.at)) ∙ e)) refl)
        refl
        (rw (new (key_here table.rows w.at))
        (sym (change_named table.rows m w.at _ ready.in_order at.row_is at.is_there (set_retention (or_zero q.mode) (or_zero q.date)))))
        refl refl (at.below, tt)

  pub hold_done : (on : Bool) (n' : Numbers) → ((l : List ℕ) → row_from n' l ≡ set_hold (hold_number on) (row_from w.numbers l))
      → JudgesBy s table line now who rules fates (Hold m on) (Ok (record { change = Rewrite w.at n'; answer = Done }))
  unfolding added rows_after reply too_late
  hold_done on n' new =
      stay_done _ s table rules now who (Hold m on) (record { change = Rewrite w.at n'; answer = Done }) ready
      (data_open s table now rules (Hold m on) m w.at w.numbers refl standing refl refl refl) refl
      (rw (new (key_here table.rows w.at))
      (sym (change_named table.rows m w.at _ ready.in_order at.row_is at.is_there (set_hold (hold_number on)))))
      refl refl (at.below, tt)

  pub get_done : JudgesBy s table line now who rules fates (Ask (Get m))
      (Ok (record { change = Keep; answer = Got w.numbers }))
  unfolding added rows_after reply too_late
  get_done =
      stay_done _ s table rules now who (Ask (Get m))
      (record { change = Keep; answer = Got w.numbers }) ready
      (data_open s table now rules (Ask (Get m)) m w.at w.numbers refl standing refl refl refl) refl refl refl (rw at.row_is)
      (tt, shown_date s table m w.at w.numbers ready standing)

pub ruleset data_ways = (refl, data_refused, retain_barred, retain_done, hold_done, get_done)

-- ## DELETE with a number

module _ (s : State) (table : Contents) (line : List ℕ) (now : ℕ) (k : List ℕ) (v : ℕ) (y a : Bool) (w : Named) (r : Result Named Refusal)
    (there : r ≡ Ok w) (found : r ≡ row_named table.rows (name k (Some (numbered v)))) (ready : Ready s table)
    (lock : (l : List ℕ) → a ≡ locked now y (row_from w.numbers l)) (who : Rights) (rules : List Rule) (fates : List Fate) where
  version_at : Stands table.rows (name k (Some (numbered v))) w.at w.numbers
  version_at = stands table.rows (name k (Some (numbered v))) ready.in_order w (sym found ∙ there)

  version_open : a ≡ false → Open (bucket_by s rules table.rows) (both now) (DeleteVersion k (numbered v) y)
  unfolding names_marker too_late
  version_open e =
      record {
        there = present table.rows (DeleteVersion k (numbered v) y) (name k (Some (numbered v))) refl _ version_at.row_is;
        no_marker = refl;
        unbarred =
            named_bars table.rows (DeleteVersion k (numbered v) y) (name k (Some (numbered v))) refl _ version_at.row_is now
            ∙ sym (lock (key_here table.rows w.at)) ∙ e;
        in_time = refl;
      }

  pub delete_barred : a ≡ true → JudgesBy s table line now who rules fates (DeleteVersion k (numbered v) y) (Err Locked)
  unfolding names_marker
  delete_barred e =
      refuse_9 _ table.room (bucket_by s rules table.rows) (both now) who (DeleteVersion k (numbered v) y)
      (present table.rows (DeleteVersion k (numbered v) y) (name k (Some (numbered v))) refl _ version_at.row_is) refl
      (named_bars table.rows (DeleteVersion k (numbered v) y) (name k (Some (numbered v))) refl _ version_at.row_is now
      ∙ sym (lock (key_here table.rows w.at)) ∙ e)

  module _ (e : a ≡ false) (b : Bool) (told : (l : List ℕ) → b ≡ is_marker (row_from w.numbers l)) where
    pub delete_marker : b ≡ true
        → JudgesBy s table line now who rules fates (DeleteVersion k (numbered v) y) (Ok (record { change = Remove w.at; answer = RemovedMarker v }))
    unfolding added rows_after reply
    delete_marker h =
        stay_done _ s table rules now who (DeleteVersion k (numbered v) y) (record { change = Remove w.at; answer = RemovedMarker v }) ready (version_open e) refl
        (sym (remove_named table.rows (name k (Some (numbered v))) w.at _ ready.in_order version_at.row_is version_at.is_there))
        refl (simp (version_at.row_is, sym (told []) ∙ h)) (version_at.below, tt)

    pub delete_data : b ≡ false
        → JudgesBy s table line now who rules fates (DeleteVersion k (numbered v) y) (Ok (record { change = Remove w.at; answer = Removed v }))
    unfolding added rows_after reply
    delete_data h =
        stay_done _ s table rules now who (DeleteVersion k (numbered v) y) (record { change = Remove w.at; answer = Removed v }) ready (version_open e) refl
        (sym (remove_named table.rows (name k (Some (numbered v))) w.at _ ready.in_order version_at.row_is version_at.is_there))
        refl (simp (version_at.row_is, sym (told []) ∙ h)) (version_at.below, tt)

pub ruleset delete_ways = (refl, row_refused, delete_barred, delete_marker, delete_data)
