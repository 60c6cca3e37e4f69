-- PUT, COPY and DELETE with `-`: a new row, or a retry, on each way through the code.
use Rattle.model.specs.declared.Fate.{Fate}
use Rattle.std.specs.Prelude.{Result, Ok, Err}
use Rattle.model.specs.declared.Refusal.{Refusal}
use Rattle.model.specs.declared.Refusal.TheVariants.{DateTooLate, NumbersSpent, TableFull}
use Rattle.judge.specs.declared.Plan.{Plan}
use Prim.Native.Nat.{ℕ, ◌≤◌, ◌<◌}
use mathlib.Core.Path.{◌≡◌, refl, sym, ap, ◌∙◌}
use mathlib.Core.Logic.{inl, inr}
use mathlib.Core.Bool.{Bool, true, false}
use mathlib.Core.List.{List, []}
use Rattle.std.specs.Prelude.{Option, Some, None}
use native.Mathlib.Omega.{arith}
use lib.Dec.{eqb, leb, ltb}
use lib.ListN.{length}
use borrow.Author.Tests.{ne_eqb, eqb-true, eqb-false, ltb-true, ltb-false}
use Rattle.buffers.specs.Ranges.{Within}
use Rattle.buffers.proofs.Tests.{either, and_i, and_l, and_r}
use Rattle.text.specs.declared.Place.{Place}
use Rattle.text.specs.Fields.{part_of}
use Rattle.text.specs.Keys.{is_key}
use Rattle.text.proofs.Keys.{key_short}
use Rattle.model.specs.Rows.{Row, largest_size, bodies}
use Rattle.model.specs.Settings.{Rule, Config, spent_number, fits}
use Rattle.model.specs.Requests.{Rights, numbered, Name, name, Retention, Terms, Repeat, Verb, Put, Copy, AddMarker, Ask, is_retention, is_name, in_range}
use Rattle.model.specs.Time.{new_mode, new_until}
use Rattle.model.specs.Sweep.{marker}
use Rattle.model.specs.Effects.{row_of, insert_by_key, new_hold, new_row, added, rows_after}
use Rattle.model.specs.Retries.{repeats, meant}
use Rattle.model.specs.Refusals.{default_too_late, missing, names_marker, barred, too_late, spends, full}
use Rattle.model.specs.Answers.{reply}
use Rattle.model.proofs.Room.{length_insert}
use Rattle.table.specs.declared.Numbers.{Numbers}
use Rattle.table.specs.Contents.{Contents, row_no, numbers_in_row}
use Rattle.table.specs.Places.{row_from}
use Rattle.search.proofs.Positions.{current_used}
use Rattle.settings.specs.declared.State.{State}
use Rattle.settings.specs.State.{config_by}
use Rattle.fields.specs.Meaning.{Inside}
use Rattle.search.specs.Places as places
use Rattle.search.proofs.Named.{current_row, insert_place, place_at, place_free}
use Rattle.answers.specs.Text.{answer_text}
use Rattle.answers.specs.Meaning.{text_of}
use Rattle.answers.specs.declared.Answer.TheVariants.{Made, Marked}
use Rattle.judge.specs.declared.Change.TheVariants.{Keep, Insert}
use Rattle.locks.specs.declared.Lock.{Lock}
use Rattle.judge.specs.declared.Named.{Named}
use Rattle.outcome.specs.Decision.{table_decision}
use Rattle.judge.specs.State.{bucket_by, Ready}
use Rattle.locks.specs.Locks.{new_lock}
use Rattle.judge.specs.Meaning.{Judged, key_here, change_means, change_takes, Feasible, Judges}
use Rattle.judge.proofs.Looking.{StandsData, stands, stands_data, found_row}
use Rattle.judge.specs.Premises.{both, Asked, Placed, room_for, JudgesBy, JudgesOn, JudgesNew}
use Rattle.judge.specs.Named.{data_named}
use Rattle.judge.proofs.Deciding.{Open, refuse_10, refuse_11, refuse_12, accept, stay_done, asks_open, data_sound}
use Rattle.judge.proofs.Leaves.{count_most}
use Rattle.judge.proofs.Naming.{data_refused}

-- ## The lock of a new row

module _ (g : Config) (now : ℕ) (r : Retention) (x : Result Lock Refusal) (e : x ≡ new_lock g now r) where
  -- The date from the default exceeds the last instant.
  record IsLate (k : Refusal) : Type 0 where
    is : k ≡ DateTooLate
    late : default_too_late g now r ≡ true

  lock_late : (k : Refusal) → x ≡ Err k → IsLate k
  unfolding new_lock
  lock_late k t =
      elim (either (default_too_late g now r)) [
        | inl h ↦ let f : ◌≡◌ {A = Result Lock Refusal} (Err k) (Err DateTooLate) = rw (t, h) at e in record { is = cc; late = h }
        | inr h ↦ let f : ◌≡◌ {A = Result Lock Refusal} (Err k) (Ok (record { mode = new_mode g r; until = new_until g now r })) = rw (t, h) at e in let z : ◌≡◌ {A = ℕ} 0 1 = cc in absurd (omega arith)
      ]

  -- It does not, and mode and date are those of a new row.
  record LockIs (l : Lock) : Type 0 where
    in_time : default_too_late g now r ≡ false
    mode : l.mode ≡ new_mode g r
    until : l.until ≡ new_until g now r

  lock_is : (l : Lock) → x ≡ Ok l → LockIs l
  unfolding new_lock
  lock_is l t =
      elim (either (default_too_late g now r)) [
        | inl h ↦ let f : ◌≡◌ {A = Result Lock Refusal} (Ok l) (Err DateTooLate) = rw (t, h) at e in let z : ◌≡◌ {A = ℕ} 0 1 = cc in absurd (omega arith)
        | inr h ↦
            let f : ◌≡◌ {A = Result Lock Refusal} (Ok l) (Ok (record { mode = new_mode g r; until = new_until g now r })) = rw (t, h) at e in
            let q : l ≡ record { mode = new_mode g r; until = new_until g now r } = cc in
            record { in_time = h; mode = ap (λ (o : Lock). o.mode) q; until = ap (λ (o : Lock). o.until) q }
      ]

-- ## A verb that adds a row

-- A version number is left, and a row is free.
record Spare (c used next : ℕ) : Type 0 where
  unspent : next < spent_number
  free : used < c

has_spare : (c used next : ℕ) (x : Unit {0}) → next ≤ spent_number → Ok x ≡ room_for c used next → Spare c used next
unfolding room_for
has_spare c used next x m e =
    elim (either (eqb next spent_number)) [
      | inl f ↦ let q : Ok x ≡ Err NumbersSpent = e ∙ rw f in let z : ◌≡◌ {A = ℕ} 0 1 = cc in absurd (omega arith)
      | inr f ↦ elim (either (ltb used c)) [
        | inl l ↦ record { unspent = let n = eqb-false next spent_number f in omega arith; free = ltb-true used c l }
        | inr l ↦ let q : Ok x ≡ Err TableFull = e ∙ simp (f, l) in let z : ◌≡◌ {A = ℕ} 0 1 = cc in absurd (omega arith)
      ]
    ]

module _ (j : Judged) (c : ℕ) (s : State) (rules : List Rule) (xs : List Row) (now : ℕ) (who : Rights) (v : Verb) (x : Row)
    (o : Open (bucket_by s rules xs) (both now) v) (one : added (bucket_by s rules xs) (both now) v ≡ 1)
    (more : rows_after (bucket_by s rules xs) (both now) v ≡ insert_by_key x xs) where
  add_refused : (u : ℕ) (k : Refusal) → length xs ≡ u → s.next ≤ spent_number → Err k ≡ room_for c u s.next → Judges j c xs (Err k) (table_decision c (bucket_by s rules xs) (both now) who v)
  unfolding room_for
  add_refused u k z m e =
      elim (either (eqb s.next spent_number)) [
        | inl f ↦
            let d : ◌≡◌ {A = Result (Unit {0}) Refusal} (Err k) (Err NumbersSpent) = e ∙ rw f in
            let q : k ≡ NumbersSpent = cc in
            let g = eqb-true s.next spent_number f in
            rw q (refuse_11 j c (bucket_by s rules xs) (both now) who v o (rw one (omega arith)))
        | inr f ↦ elim (either (ltb u c)) [
          | inl l ↦ let d : Err k ≡ Ok tt = e ∙ simp (f, l) in let z : ◌≡◌ {A = ℕ} 0 1 = cc in absurd (omega arith)
          | inr l ↦
              let d : ◌≡◌ {A = Result (Unit {0}) Refusal} (Err k) (Err TableFull) = e ∙ simp (f, l) in
              let q : k ≡ TableFull = cc in
              let g = eqb-false s.next spent_number f in
              rw q (refuse_12 j c (bucket_by s rules xs) (both now) who v o (rw one (omega arith)) (rw (more, length_insert) (omega (arith, ltb-false u c l))))
        ]
      ]

  add_done : (p : Plan) → s.next < spent_number → length xs < c → change_means j xs p.change ≡ insert_by_key x xs → change_takes p.change ≡ 1
      → text_of p.answer ≡ answer_text (reply (bucket_by s rules xs) (both now) who v) → Feasible j c xs (Ok p)
      → Judges j c xs (Ok p) (table_decision c (bucket_by s rules xs) (both now) who v)
  add_done p left l er et ex f =
      accept j c (bucket_by s rules xs) (both now) who v o (rw one (omega arith)) p
      (rw (more, length_insert) (omega arith)) (er ∙ sym more) (et ∙ sym one) ex f

-- ## PUT

put_open : (s : State) (rules : List Rule) (xs : List Row) (now : ℕ) (k : List ℕ) (body size : ℕ) (t : Terms) → default_too_late (config_by s rules) now t.retention ≡ false
    → Open (bucket_by s rules xs) (both now) (Put k body size t)
unfolding missing names_marker barred too_late
put_open s rules xs now k body size t e = record { there = refl; no_marker = refl; unbarred = refl; in_time = e }

module _ (s : State) (table : Contents) (line : List ℕ) (now : ℕ) (p : Place) (at body size : ℕ) (t : Terms) (x : Result Lock Refusal)
    (placed : Placed s table line now p at body size t)
    (lock : (us : List Rule) → x ≡ new_lock (config_by s us) now t.retention)
    (who : Rights) (rules : List Rule) (fates : List Fate) where
  pub put_late : (k : Refusal) → x ≡ Err k → JudgesBy s table line now who rules fates (Put (part_of line p) body size t) (Err k)
  unfolding missing names_marker barred too_late
  put_late k e =
      let l = lock_late (config_by s rules) now t.retention x (lock rules) k e in
      rw l.is
      (refuse_10 _ table.room (bucket_by s rules table.rows) (both now) who
      (Put (part_of line p) body size t) refl refl refl l.late)

  module _ (l : Lock) (e : x ≡ Ok l) (found : Result (Unit {0}) Refusal) (refusal : found ≡ room_for table.room s.used s.next) where
    pub put_refused : (k : Refusal) → found ≡ Err k → JudgesBy s table line now who rules fates (Put (part_of line p) body size t) (Err k)
    unfolding added rows_after
    put_refused k h =
        add_refused _ table.room s rules table.rows now who
        (Put (part_of line p) body size t) _
        (put_open s rules table.rows now (part_of line p) body size t (lock_is (config_by s rules) now t.retention x (lock rules) l e).in_time) refl refl
        s.used k placed.asked.ready.used_is placed.asked.ready.next_fits (sym h ∙ refusal)

    pub put_done : (kind h : ℕ) (u : Unit {0}) → found ≡ Ok u → kind ≡ 1 → h ≡ new_hold t.hold
        → JudgesBy s table line now who rules fates (Put (part_of line p) body size t) (Ok (record {
          change = Insert at (record { number = s.next; kind = kind; created = now; body = body; size = size; mode = l.mode; until = l.until; hold = h }) p;
          answer = Made s.next;
        }))
    unfolding added rows_after reply in_range
    put_done kind h u there ed eh =
        let w = placed.place in
        let z = placed.asked.ready.used_is in
        let f = has_spare table.room s.used s.next u placed.asked.ready.next_fits (sym there ∙ refusal) in
        let room = f.free in
        let lock = lock_is (config_by s rules) now t.retention x (lock rules) l e in
        let row = new_row (bucket_by s rules []).settings now (part_of line p) body size t in
        let short = key_short (part_of line p) (and_l _ _ placed.asked.in_ranges) in
        add_done _ table.room s rules table.rows now who
        (Put (part_of line p) body size t) row
        (put_open s rules table.rows now (part_of line p) body size t lock.in_time) refl refl
        (record { change = Insert at (record { number = s.next; kind = kind; created = now; body = body; size = size; mode = l.mode; until = l.until; hold = h }) p; answer = Made s.next })
        f.unspent (omega arith)
        (rw (w.is, ed, lock.mode, lock.until, eh) (sym (insert_place row table.rows)))
        refl refl
        ((omega (arith, w.most), omega arith, short, placed.inside.end, f.unspent), tt)

pub ruleset new_ways = (put_late, put_refused, put_done)

-- ## PUT, by what the search finds of its key

module _ (s : State) (table : Contents) (line : List ℕ) (now : ℕ) (p : Place) (body size : ℕ) (t : Terms)
    (asked : Asked s table now (Put (part_of line p) body size t)) (key : List ℕ) (ek : key ≡ part_of line p)
    (r : Result ℕ ℕ) (found : r ≡ places.current_in key table.rows) (i : ℕ) (room : ℕ) where
  abbrev rows : List Row
  rows = table.rows

  abbrev put : Verb
  put = Put (part_of line p) body size t

  -- Where a new row is meant, its judgement is that of the line.
  means_new : meant rows put ≡ put → Inside line p → Within i (places.key_place key rows) (length rows) → (u : Result Plan Refusal)
      → room ≡ table.room → JudgesNew s room now p i body size t u → JudgesOn s table line now (meant rows put) u
  means_new e inside w u q h = rw e ((rw q at h) table.rows table.keys line (record { asked = asked; inside = inside; place = rw ek at w }))

  -- The key has no row.
  pub put_first : r ≡ Err i → Inside line p → (who : Rights) (rules : List Rule) (fates : List Fate) (u : Result Plan Refusal)
      → room ≡ table.room → JudgesNew s room now p i body size t u → JudgesBy s table line now who rules fates (meant rows put) u
  put_first e inside who rules fates u q h =
      means_new (rw (sym (current_row (part_of line p) rows asked.ready.in_order), sym ek, sym found, e)) inside (place_free rows key r i found e) u q h who rules fates

  pub row_is_there : r ≡ Ok i → i < length rows
  row_is_there e = current_used rows key r i found e

  module _ (e : r ≡ Ok i) (n : Numbers) (en : n ≡ numbers_in_row (row_no rows i)) (again : Bool) (told : (k : List ℕ) → again ≡ repeats body size (row_from n k)) where
    current : row_of rows (name (part_of line p) None) ≡ Some (row_from n (key_here rows i))
    current = (stands rows (name (part_of line p) None) asked.ready.in_order (record { at = i; numbers = n }) (sym (found_row rows key None r i found e (part_of line p) n ek en))).row_is

    -- Its current row is another.
    pub put_other : again ≡ false → Inside line p → (who : Rights) (rules : List Rule) (fates : List Fate) (u : Result Plan Refusal)
        → room ≡ table.room → JudgesNew s room now p i body size t u → JudgesBy s table line now who rules fates (meant rows put) u
    put_other f inside who rules fates u q h =
        means_new (simp (current, sym (told (key_here rows i)) ∙ f)) inside (place_at rows key r i found e) u q h who rules fates

    -- Its current row is repeated.
    pub put_again : again ≡ true → (who : Rights) (rules : List Rule) (fates : List Fate) → JudgesBy s table line now who rules fates (meant rows put) (Ok (record { change = Keep; answer = Made n.number }))
    unfolding added rows_after reply
    put_again f who rules fates =
        let is : meant rows put ≡ Ask (Repeat (numbered n.number)) = simp (current, sym (told (key_here rows i)) ∙ f) in
        rw is (stay_done _ s table rules now who (Ask (Repeat (numbered n.number))) (record { change = Keep; answer = Made n.number }) asked.ready
        (asks_open _ (both now) (Repeat (numbered n.number)) refl) refl refl refl refl (tt, tt))

pub ruleset put_ways = (count_most, row_is_there, put_first, put_other, put_again)

-- ## COPY

module _ (s : State) (table : Contents) (line : List ℕ) (now : ℕ) (m : Name) (p : Place) (t : Terms) (w : Named) (r : Result Named Refusal)
    (there : r ≡ Ok w) (found : r ≡ data_named table.rows m) (asked : Asked s table now (Copy m (part_of line p) t)) where
  source : StandsData table.rows m w.at w.numbers
  source = stands_data table.rows m asked.ready.in_order w (sym found ∙ there)

  -- What is asked of the PUT that a COPY becomes.
  copy_asks : Asked s table now (Put (part_of line p) w.numbers.body w.numbers.size t)
  unfolding in_range
  copy_asks =
      let d = data_sound s table m w.at w.numbers asked.ready source in
      let e = asked.in_ranges in
      let a : is_key (part_of line p) ≡ true = and_l _ _ (and_r (is_name m) _ e) in
      let b : ltb w.numbers.body bodies ≡ true = and_l _ _ d in
      let g : leb w.numbers.size largest_size ≡ true = and_l _ _ (and_r (ltb w.numbers.body bodies) _ d) in
      let h : is_retention t.retention ≡ true = and_r (is_key (part_of line p)) _ (and_r (is_name m) _ e) in
      record { ready = asked.ready; instant = asked.instant; since = asked.since; in_ranges = search and_i depth 6 }

  -- A COPY is a new row with its source's body and length.
  pub copy_puts : (key : List ℕ) (at : ℕ) → key ≡ part_of line p → Within at (places.key_place key table.rows) (length table.rows) → Inside line p → (who : Rights) (rules : List Rule) (fates : List Fate) (u : Result Plan Refusal) (room : ℕ)
      → room ≡ table.room → JudgesNew s room now p at w.numbers.body w.numbers.size t u
      → JudgesBy s table line now who rules fates (Copy m (part_of line p) t) u
  unfolding missing names_marker barred too_late spends full fits added rows_after reply
  copy_puts key at ek z inside who rules fates u room q h =
      let e = source.at.row_is in
      let g : table_decision table.room (bucket_by s rules table.rows) (both now) who (Copy m (part_of line p) t)
      ≡ table_decision table.room (bucket_by s rules table.rows) (both now) who (Put (part_of line p) w.numbers.body w.numbers.size t) = simp (e, ne_eqb w.numbers.kind 2 source.no_marker) in
      rw g ((rw q at h) table.rows table.keys line (record { asked = copy_asks; inside = inside; place = rw ek at z }) who rules fates)

pub ruleset copy_ways = (refl, count_most, data_refused, copy_puts)

-- ## DELETE with `-`

marker_open : (s : State) (rules : List Rule) (xs : List Row) (now : ℕ) (k : List ℕ) (y : Bool) → Open (bucket_by s rules xs) (both now) (AddMarker k y)
unfolding missing names_marker barred too_late
marker_open s rules xs now k y = record { there = refl; no_marker = refl; unbarred = refl; in_time = refl }

module _ (s : State) (table : Contents) (line : List ℕ) (now : ℕ) (p : Place) (y : Bool)
    (ready : Ready s table) (key_is : is_key (part_of line p) ≡ true) (who : Rights) (rules : List Rule) (fates : List Fate)
    (room : ℕ) (room_is : room ≡ table.room) (found : Result (Unit {0}) Refusal) (given : found ≡ room_for room s.used s.next) where
  refusal : found ≡ room_for table.room s.used s.next
  refusal = rw room_is at given

  pub marker_refused : (k : Refusal) → found ≡ Err k → JudgesBy s table line now who rules fates (AddMarker (part_of line p) y) (Err k)
  unfolding added rows_after
  marker_refused k h =
      add_refused _ table.room s rules table.rows now who (AddMarker (part_of line p) y) _
      (marker_open s rules table.rows now (part_of line p) y) refl refl
      s.used k ready.used_is ready.next_fits (sym h ∙ refusal)

  pub marker_done : (key : List ℕ) (at : ℕ) (n : Numbers) (u : Unit {0}) → found ≡ Ok u → Inside line p
      → key ≡ part_of line p → Within at (places.key_place key table.rows) (length table.rows) → ((l : List ℕ) → row_from n l ≡ marker now s.next l)
      → JudgesBy s table line now who rules fates (AddMarker (part_of line p) y) (Ok (record { change = Insert at n p; answer = Marked s.next }))
  unfolding added rows_after reply
  marker_done key at n u there inside ek w new =
      let z = ready.used_is in
      let f = has_spare table.room s.used s.next u ready.next_fits (sym there ∙ refusal) in
      let room = f.free in
      let row = marker now s.next (part_of line p) in
      add_done _ table.room s rules table.rows now who (AddMarker (part_of line p) y) row
      (marker_open s rules table.rows now (part_of line p) y) refl refl
      (record { change = Insert at n p; answer = Marked s.next })
      f.unspent (omega arith)
      (rw (w.is, ek, new (part_of line p)) (sym (insert_place row table.rows)))
      refl refl
      ((omega (arith, w.most), omega arith, key_short (part_of line p) key_is, inside.end, f.unspent), tt)

pub ruleset marker_ways = (marker_refused, marker_done)
