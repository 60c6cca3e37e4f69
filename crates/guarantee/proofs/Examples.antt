-- The statements at work, computed: 01's starred examples as one table, its printed run, and a use of each demand on bytes and buffers.
use Prim.Native.Nat.{ℕ, ◌*◌, ◌<◌}
use mathlib.Core.Path.{◌≡◌, refl, ap}
use mathlib.Core.Bool.{Bool, true, false, ◌||◌}
use mathlib.Core.List.{List, [], ◌∷◌, ◌++◌}
use Rattle.std.specs.Prelude.{Some, None}
use native.Mathlib.Omega.{arith}
use lib.Dec.{lit<, lit≤}
use lib.ListN.{length, get_or, take, replicate}
use Rattle.buffers.specs.Lists.{same}
use Rattle.buffers.specs.Texts.{bytes}
use Rattle.buffers.specs.Words.{number, spelled}
use Rattle.buffers.proofs.Tests.{clash}
use Rattle.text.specs.Fields.{field_of, place_of}
use Rattle.text.specs.Lines.{lines_of, first_line}
use Rattle.text.specs.Keys.{is_key_byte, is_prefix, is_key}
use Rattle.text.specs.Numbers.{is_digit, leading_zero, number_of, positive_of}
use Rattle.text.specs.Printing.{digits}
use Rattle.calendar.specs.Calendar.{leap, years_length, month_start, month_length, valid_day, days_of, guess_of, year_of, month_of, date_in, civil_of}
use Rattle.calendar.specs.Periods.{same_date_in, years_later, period_end, expires_at}
use Rattle.dates.specs.Examples.{Starred as Dates, starred as dates}
use Rattle.dates.specs.Printing.{date_text, print_date}
use Rattle.dates.specs.Reading.{digit_of, two_digits, four_digits, day_number, day_at, second_of_day, second_at, fraction_digit, milliseconds, fraction_of, read_date}
use Rattle.model.proofs.Examples as model
use Rattle.model.proofs.Examples.{Starred as Locks}
use Rattle.model.specs.Answers.{done, reply}
use Rattle.model.specs.Run.{left, gathered}
use Rattle.model.specs.Sweep.{marker}
use Rattle.model.specs.Expiry.{by_number, by_key}
use Rattle.model.proofs.Expiry.{expired_due, noncurrent_acts}
use Rattle.model.specs.LockClause.{since, Held, InCompliance, by_line}
use Rattle.model.specs.Effects.{row_of, added, removed, rows_after, set_config, config_after}
use Rattle.model.specs.Locks.{locked, admits}
use Rattle.model.specs.Refusals.{half_given, needs, granted, lacks_right, short_for_page, past_date, missing, names_marker, barred, too_late, spends, full}
use Rattle.model.specs.Requests.{in_range}
use Rattle.model.specs.Rows.{Row, sound_row}
use Rattle.model.specs.Comparisons.{comparisons, comparisons_by}
use Rattle.model.specs.Years.{later_year, MadeForYears}
use Rattle.model.specs.Settings.{largest_number, sound_rules, sound_config, fits, sound}
use Rattle.model.specs.Time.{default_end}
use Rattle.blocks.specs.Blocks.{block_of, is_block}
use Rattle.settings.specs.Bytes.{settings_length, rules_at, settings_of, settings_bytes}
use Rattle.settings.specs.Meaning.{settings_sound}
use Rattle.bucket.specs.Whole.{Lent, lent, bucket_of, fresh_lent, whole}
use Rattle.fields.specs.Fields.{rights_in, read_rights, read_key, read_prefix, read_version, read_mode, read_until, read_switch, read_hold, read_bypass, read_period}
use Rattle.request.specs.Grammar.{name_at, retention_at, terms_at, put_of, copy_of, retain_of, set_hold_of, delete_of, default_of, rule_of, sweep_of, get_of, query_by_word, other_by_word, verb_by_word, request_in, read_line}
use Rattle.answers.specs.Text.{fields_text, ok_text, mode_text, until_text, hold_text, answer_text}
use Rattle.outcome.specs.Calls.{Call, call}
use Rattle.outcome.specs.Outcome.{Outcome, written, answered_by, refusal_of, outcome}
use Rattle.outcome.specs.Comparisons.{comparisons_of}
use Rattle.outcome.specs.Printed.{printed}
use Rattle.knitpasture.specs.Bytes.{Bytes, as_bytes, lent_of, byte_outcome, numbers_from, numbers_bytes, hub_served, hub_comparisons, hub_counted, fit_rows, hub_fresh}
use Rattle.guarantee.specs.Calls.{step}
use Rattle.guarantee.specs.Lists.{ended, line_step}
use Rattle.guarantee.specs.Promise.{Hub, Demand1, Demand2}
use Rattle.guarantee.specs.Bytes.{fresh_bytes, byte_step, byte_events}
use Rattle.guarantee.specs.Exchanges.{exchange}
use Rattle.guarantee.specs.Retries.{at_time, is_put, line_in, same_file}
use Rattle.guarantee.specs.Years.{EndIsShown}
use Rattle.guarantee.proofs.Demands.{only_hub}
use Rattle.guarantee.proofs.Bytes.{demand_3_bytes}
use Rattle.guarantee.proofs.Retries.{sent_twice, sent_twice_bytes, sent_later}
use Rattle.guarantee.proofs.Expiry.{sweeps_by_midnights_bytes}
use Rattle.guarantee.proofs.Comparisons.{counts_once_bytes}
use Rattle.guarantee.proofs.Years.{kept_for_years_bytes, shows_years_bytes, years_meet_ten_bytes}

-- A call of a line with an answer buffer of zeros.
abbrev asks : List ℕ → Call
asks line = call line (replicate 256 0)

-- ## 01's starred examples

-- What a line on a fresh bucket returns.
abbrev returned : List ℕ → ℕ
returned line = (outcome (fresh_lent 1) (asks line)).number

-- A clock that can't be read meets 3; with the date beside it the line is read, and its key has no row.
pub record Clocks : Type 0 where
  pub no_29_february : returned (bytes "2100-02-29T00:00:00Z\tr\tGET\tq/7\t-") ≡ 3
  pub its_28_february : returned (bytes "2100-02-28T00:00:00Z\tr\tGET\tq/7\t-") ≡ 7
  pub no_second_60 : returned (bytes "2016-12-31T23:59:60Z\tr\tGET\tq/7\t-") ≡ 3
  pub second_59 : returned (bytes "2016-12-31T23:59:59Z\tr\tGET\tq/7\t-") ≡ 7

pub record Starred : Type 0 where
  pub dates : Dates
  pub clocks : Clocks
  pub locks : Locks

-- ## 01's printed run

-- What is printed of a text's lines on a fresh bucket of this capacity, with an answer buffer of this length.
abbrev printed_run : ℕ → ℕ → List ℕ → List ℕ
printed_run c room text =
    gathered line_step (λ e l. let o = outcome e.bucket (call l e.answer) in printed o.number (take o.len o.answer)) (ended (fresh_lent c) (replicate room 0)) (lines_of text)

abbrev text : List ℕ
text =
    bytes "2024-03-01T00:00:00Z\tc\tDEFAULT\tCOMPLIANCE\t1d\n"
    ++ bytes "2024-03-01T00:00:00Z\tw\tPUT\tq/7\t41\t300\t-\t-\t-\n"
    ++ bytes "2024-03-01T12:00:00Z\tdb\tDELETE\tq/7\t1\tyes\n"
    ++ bytes "2024-03-01T12:00:00Z\td\tDELETE\tq/7\t-\tno\n"
    ++ bytes "2024-03-01T06:00:00Z\tr\tGET\tq/7\t1\n"
    ++ bytes "2024-03-02T00:00:00Z\td\tDELETE\tq/7\t1\tno\n"
    ++ bytes "2024-03-02T00:00:00Z\tr\tGET\tq/7\t-\n"

abbrev output : List ℕ
output =
    bytes "ok\n"
    ++ bytes "ok\t1\n"
    ++ bytes "no\t9\n"
    ++ bytes "ok\t2\tmarker\n"
    ++ bytes "ok\t1\t41\t300\tCOMPLIANCE\t2024-03-02T00:00:00.000Z\tOFF\n"
    ++ bytes "ok\t1\tremoved\n"
    ++ bytes "no\t8\n"

-- ## A printed date

-- A file under COMPLIANCE until an instant that is no whole second.
abbrev locked_put : Call
locked_put = asks (bytes "2026-01-05T08:00:00Z\twt\tPUT\tq/7\t41\t300\tCOMPLIANCE\t2033-01-05T00:00:00.007Z\t-")

abbrev get : Call
get = asks (bytes "2026-01-06T09:00:00Z\tr\tGET\tq/7\t-")

abbrev with_locked : Lent
with_locked = step (fresh_lent 1) locked_put

-- ## 01, point c: a hub that serves the first line and merely acknowledges later ones

-- It says `ok` and does nothing.
abbrev acknowledged : Hub
acknowledged b g = record { number = 0; len = 3; bucket = b; answer = written (answer_text done) g.answer }

-- The hub, by the calls that it has served so far.
abbrev first_line_only : List Call → Hub
first_line_only [] = outcome
first_line_only (k ∷ ks) = acknowledged

-- A hold that it acknowledges is not there.
abbrev hold : Call
hold = asks (bytes "2026-01-06T09:00:00Z\th\tHOLD\tq/7\t1\tON")

-- ## Demand 3 over bytes

-- Bytes of one row, before they are made a fresh bucket.
abbrev one_row : Bytes
one_row = as_bytes (replicate settings_length 90) (replicate 64 90) (replicate 64 90)

-- The second call meets 9.
abbrev calls : List Call
calls = locked_put ∷ asks (bytes "2033-01-05T00:00:00.006Z\tdb\tDELETE\tq/7\t1\tyes") ∷ []

-- ## Sent twice is sent once

-- An empty bucket of one row with one version number left.
abbrev one_left : Lent
one_left = let f = fresh_lent 1 in lent (record { time = 0; used = 0; next = largest_number; mode = 0; count = 0; unit = 0; rules = f.settings.rules }) f.numbers f.keys

-- The same line in a longer answer buffer, full of line feeds, and the line of another file.
abbrev locked_put_again : Call
locked_put_again = record { sent = locked_put.sent; answer = replicate 300 10 }

abbrev other_put : Call
other_put = asks (bytes "2026-01-05T08:00:00Z\tw\tPUT\tq/8\t41\t300\t-\t-\t-")

-- A day later, with another lock and on hold.
abbrev locked_put_later : Call
locked_put_later = asks (bytes "2026-01-06T08:00:00Z\twth\tPUT\tq/7\t41\t300\tGOVERNANCE\t2030-01-05T00:00:00Z\tON")

-- What a line returns on the bucket with the locked file.
abbrev answered_with : List ℕ → ℕ
answered_with l = (outcome with_locked (asks l)).number

-- The first PUT took the last row, and in the second bucket the last version number too, so that another file is refused; sent again it is accepted.
pub record SentAgain : Type 0 where
  pub is_put_lem : is_put (exchange (fresh_lent 1) locked_put) ≡ true
  pub no_row_left : (outcome with_locked other_put).number ≡ 12
  pub again : outcome with_locked locked_put_again ≡ answered_by (line_in (outcome (fresh_lent 1) locked_put).answer) with_locked (replicate 300 10)
  pub no_number_left : (outcome (step one_left locked_put) other_put).number ≡ 11
  pub again_spent : outcome (step one_left locked_put) locked_put_again ≡ answered_by (line_in (outcome one_left locked_put).answer) (step one_left locked_put) (replicate 300 10)
  -- With another clock and another lock: accepted too, and only the time has changed.
  pub same_file_lem : same_file locked_put.sent locked_put_later.sent ≡ true
  pub later : outcome with_locked locked_put_later ≡ answered_by (line_in (outcome (fresh_lent 1) locked_put).answer) (at_time with_locked 1767686400000) (replicate 256 0)
  -- Rights, half a lock and a past date are refused as before.
  pub no_right : answered_with (bytes "2026-01-06T08:00:00Z\tw\tPUT\tq/7\t41\t300\tCOMPLIANCE\t2033-01-05T00:00:00.007Z\t-") ≡ 5
  pub half_lock : answered_with (bytes "2026-01-06T08:00:00Z\twt\tPUT\tq/7\t41\t300\tCOMPLIANCE\t-\t-") ≡ 4
  pub past_date_lem : answered_with (bytes "2033-01-05T00:00:00.007Z\twt\tPUT\tq/7\t41\t300\tCOMPLIANCE\t2033-01-05T00:00:00.007Z\t-") ≡ 6
  -- Through the C entry.
  pub no_row_left_in_bytes : (hub_served (byte_step (fresh_bytes one_row) locked_put) other_put).number ≡ 12
  pub again_in_bytes : hub_served (byte_step (fresh_bytes one_row) locked_put) locked_put_again ≡ byte_outcome 0 (byte_step (fresh_bytes one_row) locked_put) (written (line_in (hub_served (fresh_bytes one_row) locked_put).answer) (replicate 300 10))
  pub printed_in_bytes : line_in (hub_served (fresh_bytes one_row) locked_put).answer ≡ bytes "ok\t1\n"

-- ## Days that end at midnight

-- A rule of three days for current versions and of two for others, and two versions of a file, the second of 2024-05-01T10:30:00Z.
abbrev expiring : Bytes
expiring =
    left byte_step (fresh_bytes (as_bytes (replicate settings_length 90) (replicate 192 90) (replicate 192 90)))
    (asks (bytes "2024-04-30T10:30:00Z\tc\tRULE\t0\tq/\t3\t2")
    ∷ asks (bytes "2024-04-30T10:30:00Z\tw\tPUT\tq/7\t41\t300\t-\t-\t-")
    ∷ asks (bytes "2024-05-01T10:30:00Z\tw\tPUT\tq/7\t42\t300\t-\t-\t-")
    ∷ [])

abbrev version : ℕ → ℕ → ℕ → Row
version n created body = record { number = n; kind = 1; created = created; body = body; size = 300; mode = 0; until = 0; hold = 0; key = bytes "q/7" }

abbrev older : Row
older = version 1 1714473000000 41

abbrev newer : Row
newer = version 2 1714559400000 42

-- A SWEEP with this clock, the line that it answers, and the rows that it leaves.
abbrev sweep_at : List ℕ → Call
sweep_at clock = asks (clock ++ bytes "\tc\tSWEEP")

abbrev answer_at : List ℕ → List ℕ
answer_at clock = line_in (hub_served expiring (sweep_at clock)).answer

abbrev rows_at : List ℕ → List Row
rows_at clock = (bucket_of (lent_of (byte_step expiring (sweep_at clock)))).rows

-- The older version goes at 2024-05-04T00:00:00Z, two days after the creation of the newer and rounded up; the newer is marked at 2024-05-05T00:00:00Z.
pub record ByMidnights : Type 0 where
  pub noncurrent_waits : answer_at (bytes "2024-05-03T23:59:59.999Z") ≡ bytes "ok\t0\t0\n"
  pub noncurrent_gone : answer_at (bytes "2024-05-04T00:00:00Z") ≡ bytes "ok\t1\t0\n"
  pub current_waits : answer_at (bytes "2024-05-04T23:59:59.999Z") ≡ bytes "ok\t1\t0\n"
  pub current_marked : answer_at (bytes "2024-05-05T00:00:00Z") ≡ bytes "ok\t1\t1\n"
  -- By the promise: what is there, what is gone, and what is current.
  pub there : row_of (rows_at (bytes "2024-05-03T23:59:59.999Z")) (by_number older) ≡ Some older
  pub gone : row_of (rows_at (bytes "2024-05-04T00:00:00Z")) (by_number older) ≡ None
  pub marked : (n : ℕ) × (row_of (rows_at (bytes "2024-05-05T00:00:00Z")) (by_key newer) ≡ Some (marker 1714867200000 n (bytes "q/7")))

-- ## Comparisons of a prefix with a key

-- With a second rule that is set, and a second file.
abbrev two_keys : Bytes
two_keys =
    left byte_step expiring
    (asks (bytes "2024-05-01T10:30:00Z\tc\tRULE\t5\t\t0\t9")
    ∷ asks (bytes "2024-05-01T10:30:00Z\tw\tPUT\tq/8\t43\t300\t-\t-\t-")
    ∷ [])

-- What a line leaves in the place of the count, where 7 stood.
abbrev counted_of : List ℕ → ℕ
counted_of l = hub_counted two_keys (asks l) 7

-- Two rules are set, and three rows have two keys.
pub record CountedKeys : Type 0 where
  pub sweep : counted_of (bytes "2024-05-04T00:00:00Z\tc\tSWEEP") ≡ 4
  pub get : counted_of (bytes "2024-05-04T00:00:00Z\tr\tGET\tq/7\t-") ≡ 0
  pub no_right : counted_of (bytes "2024-05-04T00:00:00Z\tr\tSWEEP") ≡ 7
  -- By the promise, with the keys in another order than the table's.
  pub by_keys : counted_of (bytes "2024-05-04T00:00:00Z\tc\tSWEEP") ≡ 2 * length (bytes "q/8" ∷ bytes "q/7" ∷ [])

-- Where one of two keys stands twice, the order plays no part.
either_order : (a b : Bool) → (b || (a || false)) ≡ (a || (a || (b || false)))
either_order true true = refl
either_order true false = refl
either_order false true = refl
either_order false false = refl

-- ## Years by the calendar

-- A bucket of one row with a default, set on 29 February 2024.
abbrev kept_for : List ℕ → Bytes
kept_for period = byte_step (fresh_bytes one_row) (asks (bytes "2024-02-29T10:30:00Z\tc\tDEFAULT\tCOMPLIANCE\t" ++ period))

-- A PUT that takes it, with this clock, and what GET shows then.
abbrev put_at : List ℕ → Call
put_at clock = asks (clock ++ bytes "\tw\tPUT\tq/7\t41\t300\t-\t-\t-")

abbrev leap_day : List ℕ
leap_day = bytes "2024-02-29T10:30:00Z"

abbrev shown_for : List ℕ → List ℕ
shown_for period = line_in (hub_served (byte_step (kept_for period) (put_at leap_day)) get).answer

pub record ByYears : Type 0 where
  pub last_of_february : shown_for (bytes "1y") ≡ bytes "ok\t1\t41\t300\tCOMPLIANCE\t2025-02-28T10:30:00.000Z\tOFF\n"
  pub leap_day_lem : shown_for (bytes "4y") ≡ bytes "ok\t1\t41\t300\tCOMPLIANCE\t2028-02-29T10:30:00.000Z\tOFF\n"
  pub no_leap_century_lem : shown_for (bytes "76y") ≡ bytes "ok\t1\t41\t300\tCOMPLIANCE\t2100-02-28T10:30:00.000Z\tOFF\n"
  pub is_too_late : (hub_served (kept_for (bytes "100y")) (put_at (bytes "9900-01-01T00:00:00Z"))).number ≡ 10
  pub last_end : (hub_served (kept_for (bytes "100y")) (put_at (bytes "9899-12-31T23:59:59.999Z"))).number ≡ 0
  -- By the promises: the row, what GET shows of it, and the year of a line that met 10.
  pub kept : MadeForYears 1709202600000 (bucket_of (lent_of (kept_for (bytes "1y")))) (bytes "q/7") (bucket_of (lent_of (byte_step (kept_for (bytes "1y")) (put_at leap_day))))
  pub shows : EndIsShown 1 1709202600000 (hub_served (byte_step (kept_for (bytes "1y")) (put_at leap_day)) get).answer
  pub beyond : 9999 < later_year 250246627200000 (bucket_of (lent_of (kept_for (bytes "100y"))))

-- ## The examples, computed

pub record Examples : Type 0 where
  pub starred : Starred
  -- The run on the sizes of `bucketrun`.
  pub printed_run_lem : printed_run 1024 65536 text ≡ output
  pub date_printed : field_of (first_line (outcome with_locked get).answer) 5 ≡ bytes "2033-01-05T00:00:00.007Z"
  pub date_read : read_date (field_of (first_line (outcome with_locked get).answer) 5) ≡ Some 1988496000007
  pub refused_9 : (hub_served (byte_step (fresh_bytes one_row) locked_put) (asks (bytes "2033-01-05T00:00:00.006Z\tdb\tDELETE\tq/7\t1\tyes"))).number ≡ 9
  pub held_in_bytes : Held (bucket_of (lent_of (left byte_step (fresh_bytes one_row) calls))) (since (bucket_of (lent_of (fresh_bytes one_row))) (byte_events (fresh_bytes one_row) calls)) 1 (InCompliance 1988496000007)
  pub sent_again : SentAgain
  pub by_midnights : ByMidnights
  pub counted : CountedKeys
  pub by_years : ByYears
  pub no_first_line_only : Demand1 (first_line_only (locked_put ∷ [])) with_locked hold → Demand2 (first_line_only (locked_put ∷ [])) with_locked hold → ⊥

pub examples : Examples
unfolding field_of place_of is_key_byte is_prefix is_key is_digit leading_zero number_of positive_of digits leap years_length month_start month_length valid_day days_of guess_of year_of month_of date_in civil_of same_date_in years_later period_end expires_at date_text print_date digit_of two_digits four_digits day_number day_at second_of_day second_at fraction_digit milliseconds fraction_of read_date reply added removed rows_after set_config config_after locked admits half_given needs granted lacks_right short_for_page past_date missing names_marker barred too_late spends full in_range sound_row sound_rules sound_config fits sound default_end block_of is_block whole rights_in read_rights read_key read_prefix read_version read_mode read_until read_switch read_hold read_bypass read_period name_at retention_at terms_at put_of copy_of retain_of set_hold_of delete_of default_of rule_of sweep_of get_of query_by_word other_by_word verb_by_word request_in read_line fields_text ok_text mode_text until_text hold_text refusal_of outcome number numbers_from numbers_bytes spelled rules_at settings_of settings_bytes hub_served hub_comparisons hub_counted fit_rows hub_fresh settings_sound comparisons comparisons_by comparisons_of
examples =
    record {
      starred = record {
        dates = dates;
        clocks = record { no_29_february = refl; its_28_february = refl; no_second_60 = refl; second_59 = refl };
        locks = (model.examples).starred;
      };
      printed_run_lem = refl;
      date_printed = refl;
      date_read = refl;
      refused_9 = refl;
      held_in_bytes = (demand_3_bytes 1 one_row (record { some = lit≤ tt; most = lit≤ tt; settings_long = refl; rows_long = refl; keys_long = refl }) calls).in_compliance 1 1988496000007 [] (by_line [] _ refl refl) (lit< tt);
      sent_again = record {
        is_put_lem = refl;
        no_row_left = refl;
        again = sent_twice (fresh_lent 1) locked_put locked_put_again refl refl (lit≤ tt);
        no_number_left = refl;
        again_spent = sent_twice one_left locked_put locked_put_again refl refl (lit≤ tt);
        same_file_lem = refl;
        later = sent_later (fresh_lent 1) locked_put locked_put_later refl refl refl;
        no_right = refl;
        half_lock = refl;
        past_date_lem = refl;
        no_row_left_in_bytes = refl;
        again_in_bytes = sent_twice_bytes (fresh_bytes one_row) locked_put locked_put_again refl refl (lit≤ tt);
        printed_in_bytes = refl;
      };
      by_midnights = record {
        noncurrent_waits = refl;
        noncurrent_gone = refl;
        current_waits = refl;
        current_marked = refl;
        there = (sweeps_by_midnights_bytes expiring (sweep_at (bytes "2024-05-03T23:59:59.999Z")) 1714780799999 refl refl).noncurrent_stays [] [] newer older refl refl
            (λ h _. clash _ (expired_due _ noncurrent_acts (bytes "q/7") 1714559400000 1714780799999 _ h) refl);
        gone = (sweeps_by_midnights_bytes expiring (sweep_at (bytes "2024-05-04T00:00:00Z")) 1714780800000 refl refl).noncurrent_goes [] [] newer older refl refl
            (record { place = 0; begins_key = refl; has_days = λ e. let z : ◌≡◌ {A = ℕ} 2 0 = e in omega arith; has_come = record { at = 1714780800000; is_midnight = refl; not_earlier = lit≤ tt; no_later = lit≤ tt } }) refl;
        marked = (sweeps_by_midnights_bytes expiring (sweep_at (bytes "2024-05-05T00:00:00Z")) 1714867200000 refl refl).current_marked newer refl refl
            (record { place = 0; begins_key = refl; has_days = λ e. let z : ◌≡◌ {A = ℕ} 3 0 = e in omega arith; has_come = record { at = 1714867200000; is_midnight = refl; not_earlier = lit≤ tt; no_later = lit≤ tt } });
      };
      counted = record {
        sweep = refl;
        get = refl;
        no_right = refl;
        by_keys = (counts_once_bytes two_keys (sweep_at (bytes "2024-05-04T00:00:00Z")) 7).sweep refl (bytes "q/8" ∷ bytes "q/7" ∷ [])
            (record { same_keys = λ k. either_order (same k (bytes "q/7")) (same k (bytes "q/8")); once = refl });
      };
      by_years = record {
        last_of_february = refl;
        leap_day_lem = refl;
        no_leap_century_lem = refl;
        is_too_late = refl;
        last_end = refl;
        kept = kept_for_years_bytes (kept_for (bytes "1y")) (put_at leap_day) 1709202600000 (record { word = refl; no_mode = refl; clock_read = refl; counts_years = refl }) refl;
        shows = shows_years_bytes (kept_for (bytes "1y")) (put_at leap_day) get 1709202600000 (record { word = refl; no_mode = refl; clock_read = refl; counts_years = refl }) refl refl;
        beyond = (years_meet_ten_bytes (kept_for (bytes "100y")) (put_at (bytes "9900-01-01T00:00:00Z")) 250246627200000 (record { word = refl; no_mode = refl; clock_read = refl; counts_years = refl })).only_there refl;
      };
      no_first_line_only = λ d e. let z : ◌≡◌ {A = ℕ} 0 1 = ap (λ (o : Outcome). get_or o.bucket.numbers 7 0) (only_hub (first_line_only (locked_put ∷ [])) with_locked hold d e) in absurd (omega arith);
    }
