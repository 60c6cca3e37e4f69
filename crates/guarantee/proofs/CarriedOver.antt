-- A bucket that was spent while numbers ended at 4294967295, carried over to the C entry, computed; and what is promised of it.
use mathlib.Core.Bool.{true}
use mathlib.Core.List.{List, [], ◌∷◌}
use mathlib.Core.Path.{◌≡◌, refl}
use Prim.Native.String.{String}
use lib.Dec.{lit≤, lit<}
use lib.ListN.{replicate}
use Rattle.buffers.specs.Texts.{bytes}
use Rattle.buffers.specs.Words.{number, spelled}
use Rattle.text.specs.Fields.{field_of, place_of}
use Rattle.text.specs.Keys.{is_key_byte, is_prefix, is_key}
use Rattle.text.specs.Numbers.{is_digit, leading_zero, number_of, positive_of}
use Rattle.calendar.specs.Calendar.{leap, years_length, month_start, month_length, valid_day, days_of, guess_of, year_of, month_of, date_in, civil_of}
use Rattle.dates.specs.Printing.{date_text, print_date}
use Rattle.dates.specs.Reading.{digit_of, two_digits, four_digits, day_number, day_at, second_of_day, second_at, fraction_digit, milliseconds, fraction_of, read_date}
use Rattle.model.specs.Answers.{made, reply}
use Rattle.model.specs.Effects.{added, rows_after, config_after}
use Rattle.model.specs.LockClause.{since, History, Held, InCompliance, OnHold, carried_over}
use Rattle.model.specs.Locks.{locked}
use Rattle.model.specs.Refusals.{half_given, needs, granted, lacks_right, past_date, missing, names_marker, barred, too_late, spends, full, short_for_page}
use Rattle.model.specs.Requests.{numbered, in_range}
use Rattle.model.specs.Rows.{compliance, sound_row}
use Rattle.model.specs.Run.{left}
use Rattle.model.specs.Settings.{Bucket, fresh, sound_rules, sound_config, fits, sound}
use Rattle.blocks.specs.Blocks.{block_of, is_block}
use Rattle.settings.specs.Bytes.{rules_at, settings_of, settings_bytes}
use Rattle.settings.specs.Meaning.{settings_sound}
use Rattle.bucket.specs.Whole.{bucket_of, laid_out, whole}
use Rattle.fields.specs.Fields.{rights_in, read_rights, read_key, read_prefix, read_version, read_mode, read_until, read_switch, read_hold, read_bypass}
use Rattle.request.specs.Grammar.{retention_at, terms_at, put_of, delete_of, query_by_word, other_by_word, verb_by_word, request_in, read_line}
use Rattle.answers.specs.Text.{answer_text, fields_text, ok_text, mode_text, until_text, hold_text}
use Rattle.outcome.specs.Calls.{Call, call}
use Rattle.outcome.specs.Outcome.{written, refusal_of, outcome}
use Rattle.knitpasture.specs.Bytes.{Bytes, as_bytes, lent_of, numbers_from, numbers_bytes, hub_served}
use Rattle.guarantee.specs.Bytes.{Sized, byte_step, byte_events}
use Rattle.guarantee.specs.Carried.{Carriable, whole_before}
use Rattle.guarantee.proofs.Bytes.{runs_on_bytes}
use Rattle.guarantee.proofs.Carried.{whole_still}

-- At 2024-03-01T00:00:00Z: a file under COMPLIANCE until the next day, and one that is on hold beyond its date, six hours later.
abbrev saved : Bucket
saved =
    record {
      settings = record { time = 1709251200000; next = 4294967296; config = fresh.settings.config };
      rows =
          record { number = 4294967294; kind = 1; created = 1709251100000; body = 41; size = 300; mode = compliance; until = 1709337600000; hold = 0; key = bytes "q/7" }
          ∷ record { number = 4294967295; kind = 1; created = 1709251100000; body = 42; size = 301; mode = compliance; until = 1709272800000; hold = 1; key = bytes "q/8" }
          ∷ [];
    }

-- its bytes, with room for three rows
abbrev old : Bytes
old = let b = laid_out 3 saved in as_bytes (settings_bytes b.settings) (numbers_bytes b.numbers) b.keys

abbrev sent : String → Call
sent s = call (bytes s) (replicate 256 0)

abbrev delete_locked_lem : Call
delete_locked_lem = sent "2024-03-01T12:00:00Z\tdb\tDELETE\tq/7\t4294967294\tyes"

abbrev delete_held : Call
delete_held = sent "2024-03-01T12:00:00Z\tdb\tDELETE\tq/8\t4294967295\tyes"

abbrev put : Call
put = sent "2024-03-01T12:00:00Z\tw\tPUT\tq/9\t43\t302\t-\t-\t-"

abbrev calls : List Call
calls = delete_locked_lem ∷ delete_held ∷ put ∷ []

abbrev after_old : History
after_old = since (bucket_of (lent_of old)) (byte_events old calls)

pub record CarriedOver : Type 0 where
  pub was_whole : whole_before (lent_of old) ≡ true
  pub is_carriable : Carriable (lent_of old)
  pub locked_stays : (hub_served old delete_locked_lem).number ≡ 9
  pub held_stays : (hub_served old delete_held).number ≡ 9
  -- It answers the number that meant spent.
  pub goes_on : (hub_served old put).answer ≡ written (answer_text (made (numbered 4294967296))) (replicate 256 0)
  -- By the promise.
  pub compliance_held : Held (bucket_of (lent_of (left byte_step old calls))) after_old 4294967294 (InCompliance 1709337600000)
  pub hold_held : Held (bucket_of (lent_of (left byte_step old calls))) after_old 4294967295 OnHold

pub carried_over_lem : CarriedOver
unfolding field_of place_of is_key_byte is_prefix is_key is_digit leading_zero number_of positive_of leap years_length month_start month_length valid_day days_of guess_of year_of month_of date_in civil_of date_text print_date digit_of two_digits four_digits day_number day_at second_of_day second_at fraction_digit milliseconds fraction_of read_date reply added rows_after config_after locked half_given needs granted lacks_right short_for_page past_date missing names_marker barred too_late spends full in_range sound_row sound_rules sound_config fits sound block_of is_block whole rights_in read_rights read_key read_prefix read_version read_mode read_until read_switch read_hold read_bypass retention_at terms_at put_of delete_of query_by_word other_by_word verb_by_word request_in read_line fields_text ok_text mode_text until_text hold_text refusal_of outcome number spelled numbers_from numbers_bytes rules_at settings_of settings_bytes hub_served settings_sound
carried_over_lem =
    let sized : Sized 3 old = record { some = lit≤ tt; most = lit≤ tt; settings_long = refl; rows_long = refl; keys_long = refl } in
    let c : Carriable (lent_of old) = record { is_whole = whole_still (lent_of old) refl; numbers_differ = refl } in
    record {
      was_whole = refl;
      is_carriable = c;
      locked_stays = refl;
      held_stays = refl;
      goes_on = refl;
      compliance_held = (runs_on_bytes 3 old sized c calls).in_compliance 4294967294 1709337600000 _ (carried_over refl refl) (lit< tt);
      hold_held = (runs_on_bytes 3 old sized c calls).on_hold 4294967295 _ (carried_over refl refl) refl;
    }
