-- 01's whole printed run, its starred lock examples, and uses of the lock clause, computed.
use Prim.Native.Nat.{ℕ, ◌+◌, ◌-◌}
use mathlib.Core.Path.{◌≡◌, refl}
use mathlib.Core.Bool.{Bool, true, false}
use mathlib.Core.List.{List, [], ◌∷◌}
use Rattle.std.specs.Prelude.{Option, Some, None}
use lib.Dec.{lit<}
use lib.ListN.{take, drop}
use Rattle.buffers.specs.Texts.{bytes}
use Rattle.text.specs.Keys.{is_key_byte, is_key, is_prefix}
use Rattle.calendar.specs.Calendar.{day}
use Rattle.calendar.specs.Periods.{period_end, expires_at}
use Rattle.model.specs.Rows.{governance, compliance, sound_row}
use Rattle.model.specs.Settings.{Bucket, fresh, days, sound_rules, sound_config, fits, sound}
use Rattle.model.specs.Requests.{Rights, Version, numbered, name, no_retention, Terms, DefaultRetention, LifecycleRule, Get, Report, Verb, Put, Copy, Retain, AddMarker, DeleteVersion, Set, Sweep, Ask, Heard, says, in_range}
use Rattle.model.specs.Time.{default_end}
use Rattle.model.specs.Locks.{locked, admits}
use Rattle.model.specs.Effects.{added, removed as rows_removed, rows_after, set_config, config_after}
use Rattle.model.specs.Refusals.{half_given, needs, granted, lacks_right, short_for_page, past_date, missing, names_marker, barred, too_late, spends, full, refusal}
use Rattle.model.specs.Answers.{done, made, repeated, marked, removed, removed_marker, swept_counts, shown, reported, reply}
use Rattle.model.specs.Run.{Reply, no, ok, replies, run, line_events}
use Rattle.model.specs.LockClause.{History, since, made_with, Held, InCompliance, InGovernance, OnHold, carried_over, by_line}
use Rattle.model.proofs.LockClause.{lock_clause}

-- ## 01's run

abbrev letters : Rights
letters = record { r = true; w = true; d = true; t = true; h = true; b = true; c = true }

abbrev line : ℕ → Verb → Heard
line t v = says (record { context = record { room = 256; clock = t; who = letters }; verb = v })

abbrev key : List ℕ
key = bytes "q/7"

abbrev first : Option Version
first = Some (numbered 1)

abbrev plain : Terms
plain = record { retention = no_retention; hold = None }

-- 2024-03-01T00:00:00Z, the same day at 6 and at 12, and the day after.
abbrev lines : List Heard
lines =
    line 1709251200000 (Set (DefaultRetention (Some compliance) (Some (record { count = 1; unit = days }))))
    ∷ line 1709251200000 (Put key 41 300 plain)
    ∷ line 1709294400000 (DeleteVersion key (numbered 1) true)
    ∷ line 1709294400000 (AddMarker key false)
    ∷ line 1709272800000 (Ask (Get (name key first)))
    ∷ line 1709337600000 (DeleteVersion key (numbered 1) false)
    ∷ line 1709337600000 (Ask (Get (name key None)))
    ∷ []

-- ## The starred examples

-- D, and a PUT under COMPLIANCE until D.
abbrev D : ℕ
D = 1000000

abbrev until : ℕ → ℕ → Option Bool → Terms
until m d h = record { retention = record { mode = Some m; date = Some d }; hold = h }

abbrev put_until : Heard
put_until = line 1 (Put key 41 300 (until compliance D None))

abbrev retain_until : ℕ → Verb
retain_until d = Retain (name key first) (record { mode = Some compliance; date = Some d }) true

-- What the second of two lines gets.
abbrev second : Heard → Heard → List Reply
second l m = replies 4 fresh (l ∷ m ∷ [])

-- The starred examples of 01 that speak of locks.
pub record Starred : Type 0 where
  -- COMPLIANCE until D: DELETE at D less 1 ms with bypass is 9,
  pub before_date : second put_until (line (D - 1) (DeleteVersion key (numbered 1) true)) ≡ ok (made (numbered 1)) ∷ no 9 ∷ []
  -- at D it is accepted.
  pub at_date : second put_until (line D (DeleteVersion key (numbered 1) true)) ≡ ok (made (numbered 1)) ∷ ok (removed (numbered 1)) ∷ []
  -- RETAIN to the same date is accepted,
  pub same_date : second put_until (line 2 (retain_until D)) ≡ ok (made (numbered 1)) ∷ ok done ∷ []
  -- 1 ms earlier with bypass is 9, now being earlier still,
  pub earlier_date : second put_until (line 2 (retain_until (D - 1))) ≡ ok (made (numbered 1)) ∷ no 9 ∷ []
  -- otherwise 6.
  pub no_later_now : second put_until (line (D - 1) (retain_until (D - 1))) ≡ ok (made (numbered 1)) ∷ no 6 ∷ []

-- ## SWEEP

-- A rule of three days for current rows and of two for others, two versions created a day apart, and a SWEEP at t.
abbrev swept_at : ℕ → ℕ → List Reply
swept_at created t =
    replies 4 fresh
    (line created (Set (LifecycleRule 0 (record { prefix = bytes "q/"; current_days = 3; noncurrent_days = 2 })))
    ∷ line created (Put key 41 300 plain)
    ∷ line (created + day) (Put key 42 300 plain)
    ∷ line t Sweep
    ∷ [])

-- Its answer, after those of the three lines before it.
abbrev answering_sweep : ℕ → ℕ → List Reply
answering_sweep gone come = ok done ∷ ok (made (numbered 1)) ∷ ok (made (numbered 2)) ∷ ok (swept_counts gone come) ∷ []

-- ## A retry

-- What a PUT of this body and length on hold is answered, in a table of one row that a PUT of 41 and 300 filled.
abbrev replies_again : ℕ → ℕ → List Reply
replies_again body size = replies 1 fresh (line 1 (Put key 41 300 plain) ∷ line 2 (Put key body size (record { retention = no_retention; hold = Some true })) ∷ [])

-- What a PUT is answered, then a line of this verb, then the PUT again.
abbrev sent_after : Verb → List Reply
sent_after v = replies 4 fresh (line 1 (Put key 41 300 plain) ∷ line 2 v ∷ line 3 (Put key 41 300 plain) ∷ [])

-- ## REPORT

-- The last reply: under `q/` stand a version in COMPLIANCE until D, a marker and a file on hold; REPORT of `q/` comes at t.
abbrev report_at : ℕ → List Reply
report_at t =
    drop 4 (replies 4 fresh
    (put_until
    ∷ line 2 (AddMarker key false)
    ∷ line 3 (Put (bytes "q/8") 42 301 (record { retention = no_retention; hold = Some true }))
    ∷ line 3 (Put (bytes "r") 43 302 plain)
    ∷ line t (Ask (Report (bytes "q/")))
    ∷ []))

abbrev totalling : ℕ → List Reply
totalling n = ok (reported (record { versions = 2; markers = 1; size = 601; locked = n })) ∷ []

-- ## The lock clause at lists of lines

-- After a DELETE that is refused and a marker, version 1, under COMPLIANCE by the default, is still held.
abbrev four : List Heard
four = take 4 lines

-- A GOVERNANCE lock outlasts a RETAIN of its own that lengthens it, and a refused one that shortens it.
abbrev governed : List Heard
governed =
    line 1 (Put key 41 300 (until governance D None))
    ∷ line 2 (Retain (name key None) (record { mode = Some governance; date = Some (D + 5) }) false)
    ∷ line 3 (Retain (name key None) (record { mode = Some governance; date = Some D }) false)
    ∷ []

-- A hold outlasts a DELETE with bypass.
abbrev was_put_on_hold : List Heard
was_put_on_hold =
    line 1 (Put key 41 300 (record { retention = no_retention; hold = Some true }))
    ∷ line 2 (DeleteVersion key (numbered 1) true)
    ∷ []

-- ## A bucket carried over

-- Spent as long as numbers ended at 4294967295, at time 900: a marker on a file under COMPLIANCE until D, a file under GOVERNANCE until D, and one on hold that was under COMPLIANCE until 1000.
abbrev old : Bucket
old =
    record {
      settings = record { time = 900; next = 4294967296; config = fresh.settings.config };
      rows =
          record { number = 4294967295; kind = 2; created = 900; body = 0; size = 0; mode = 0; until = 0; hold = 0; key = key }
          ∷ record { number = 1; kind = 1; created = 800; body = 41; size = 300; mode = compliance; until = D; hold = 0; key = key }
          ∷ record { number = 8; kind = 1; created = 800; body = 43; size = 302; mode = governance; until = D; hold = 0; key = bytes "q/8" }
          ∷ record { number = 2; kind = 1; created = 800; body = 42; size = 301; mode = compliance; until = 1000; hold = 1; key = bytes "q/9" }
          ∷ [];
    }

-- A DELETE of each, at first by a clock that is behind the time carried over, and a COPY of the one on hold.
abbrev sent : List Heard
sent =
    line 100 (DeleteVersion key (numbered 1) true)
    ∷ line 100 (DeleteVersion (bytes "q/8") (numbered 8) false)
    ∷ line 1000 (DeleteVersion (bytes "q/9") (numbered 2) true)
    ∷ line 1000 (DeleteVersion key (numbered 4294967295) true)
    ∷ line 1000 (Copy (name (bytes "q/9") None) (bytes "r/1") plain)
    ∷ []

abbrev since_old : History
since_old = since old (line_events 5 old sent)

pub record Carried : Type 0 where
  pub answered : replies 5 old sent ≡ no 9 ∷ no 9 ∷ no 9 ∷ ok (removed_marker (numbered 4294967295)) ∷ ok (made (numbered 4294967296)) ∷ []
  pub compliance_held : Held (run 5 old sent) since_old 1 (InCompliance D)
  pub governance_held : Held (run 5 old sent) since_old 8 (InGovernance D)
  pub hold_held : Held (run 5 old sent) since_old 2 OnHold
  -- The copy is made with what its source, carried over, counts as made with.
  pub copied : made_with since_old 4294967296 ≡ Some (record { key = bytes "r/1"; body = 42; size = 301; created = 1000 })
  -- A marker carried over counts as made with nothing.
  pub marker_unmade : made_with since_old 4294967295 ≡ None

-- ## The end of the numbers

-- The replies to two PUTs where one number is left.
abbrev at_the_end : List Reply
at_the_end =
    replies 2 (record { settings = record { time = 0; next = 18446744073709551614; config = fresh.settings.config }; rows = [] })
    (line 1 (Put key 41 300 plain) ∷ line 2 (Put key 42 300 plain) ∷ [])

-- ## The examples, computed

pub record Examples : Type 0 where
  pub whole_run : replies 1024 fresh lines ≡
      ok done
      ∷ ok (made (numbered 1))
      ∷ no 9
      ∷ ok (marked (numbered 2))
      ∷ ok (shown (record { number = 1; kind = 1; created = 1709251200000; body = 41; size = 300; mode = 2; until = 1709337600000; hold = 0; key = key }))
      ∷ ok (removed (numbered 1))
      ∷ no 8
      ∷ []
  pub starred : Starred
  -- The second version is created 2024-05-01T10:30:00Z: the first goes from 2024-05-04T00:00:00Z on, and it is marked from 2024-05-05T00:00:00Z on.
  pub noncurrent_waits : swept_at 1714473000000 1714780799999 ≡ answering_sweep 0 0
  pub noncurrent_gone : swept_at 1714473000000 1714780800000 ≡ answering_sweep 1 0
  pub current_waits : swept_at 1714473000000 1714867199999 ≡ answering_sweep 1 0
  pub current_marked : swept_at 1714473000000 1714867200000 ≡ answering_sweep 1 1
  -- Created 2024-05-01T00:00:00.000Z, it is marked three days later; created 1 ms after that, it isn't yet.
  pub midnight_stays : swept_at 1714435200000 1714780800000 ≡ answering_sweep 1 1
  pub after_midnight_lem : swept_at 1714435200001 1714780800000 ≡ answering_sweep 1 0
  pub resent : replies_again 41 300 ≡ ok (made (numbered 1)) ∷ ok (repeated (numbered 1)) ∷ []
  pub another_body : replies_again 42 300 ≡ ok (made (numbered 1)) ∷ no 12 ∷ []
  pub another_length : replies_again 41 301 ≡ ok (made (numbered 1)) ∷ no 12 ∷ []
  pub marker_on_top : sent_after (AddMarker key false) ≡ ok (made (numbered 1)) ∷ ok (marked (numbered 2)) ∷ ok (made (numbered 3)) ∷ []
  pub other_on_top : sent_after (Put key 42 300 plain) ≡ ok (made (numbered 1)) ∷ ok (made (numbered 2)) ∷ ok (made (numbered 3)) ∷ []
  pub copied_on_top : sent_after (Copy (name key None) key plain) ≡ ok (made (numbered 1)) ∷ ok (made (numbered 2)) ∷ ok (repeated (numbered 2)) ∷ []
  pub before_its_date : report_at (D - 1) ≡ totalling 2
  pub on_its_date : report_at D ≡ totalling 1
  pub compliance_held : Held (run 1024 fresh four) (since fresh (line_events 1024 fresh four)) 1 (InCompliance 1709337600000)
  pub governance_held : Held (run 1 fresh governed) (since fresh (line_events 1 fresh governed)) 1 (InGovernance D)
  pub hold_held : Held (run 1 fresh was_put_on_hold) (since fresh (line_events 1 fresh was_put_on_hold)) 1 OnHold
  pub carried_over_lem : Carried
  pub last_number : at_the_end ≡ ok (made (numbered 18446744073709551614)) ∷ no 11 ∷ []

pub examples : Examples
unfolding is_key_byte is_key is_prefix period_end expires_at sound_row sound_rules sound_config fits sound in_range default_end locked admits added rows_removed rows_after set_config config_after half_given needs granted lacks_right short_for_page past_date missing names_marker barred too_late spends full refusal reply
examples =
    record {
      whole_run = refl;
      starred = record { before_date = refl; at_date = refl; same_date = refl; earlier_date = refl; no_later_now = refl };
      noncurrent_waits = refl;
      noncurrent_gone = refl;
      current_waits = refl;
      current_marked = refl;
      midnight_stays = refl;
      after_midnight_lem = refl;
      resent = refl;
      another_body = refl;
      another_length = refl;
      marker_on_top = refl;
      other_on_top = refl;
      copied_on_top = refl;
      before_its_date = refl;
      on_its_date = refl;
      compliance_held = (lock_clause 1024 fresh refl refl four).in_compliance 1 1709337600000 (_ ∷ []) (by_line (_ ∷ []) _ refl refl) (lit< tt);
      governance_held = (lock_clause 1 fresh refl refl governed).in_governance 1 D (_ ∷ []) (by_line [] _ refl refl) refl (lit< tt);
      hold_held = (lock_clause 1 fresh refl refl was_put_on_hold).on_hold 1 [] (by_line [] _ refl refl) refl;
      carried_over_lem = record {
        answered = refl;
        compliance_held = (lock_clause 5 old refl refl sent).in_compliance 1 D _ (carried_over refl refl) (lit< tt);
        governance_held = (lock_clause 5 old refl refl sent).in_governance 8 D _ (carried_over refl refl) refl (lit< tt);
        hold_held = (lock_clause 5 old refl refl sent).on_hold 2 _ (carried_over refl refl) refl;
        copied = refl;
        marker_unmade = refl;
      };
      last_number = refl;
    }
