-- Three pages of a prefix, followed on buffers that held something else, and a REPORT before and after them, computed; and what is promised of them.
use Prim.Native.Nat.{ℕ}
use Prim.Native.String.{String}
use mathlib.Core.Bool.{true}
use mathlib.Core.List.{List, [], ◌∷◌}
use mathlib.Core.Path.{◌≡◌, refl}
use lib.ListN.{replicate}
use Rattle.buffers.specs.Texts.{bytes}
use Rattle.buffers.specs.Words.{number, spelled}
use Rattle.text.specs.Fields.{field_of, place_of}
use Rattle.text.specs.Lines.{first_line}
use Rattle.text.specs.Keys.{is_key_byte, is_prefix, is_key}
use Rattle.text.specs.Numbers.{is_digit, leading_zero, number_of, positive_of}
use Rattle.text.specs.Printing.{digits}
use Rattle.calendar.specs.Calendar.{leap, years_length, month_start, month_length, valid_day, days_of, guess_of, year_of, month_of, date_in, civil_of}
use Rattle.dates.specs.Printing.{date_text, print_date}
use Rattle.dates.specs.Reading.{digit_of, two_digits, four_digits, day_number, day_at, second_of_day, second_at, fraction_digit, milliseconds, fraction_of, read_date}
use Rattle.model.specs.Answers.{reply}
use Rattle.model.specs.Effects.{added, rows_after, config_after}
use Rattle.model.specs.Locks.{locked}
use Rattle.model.specs.Pages.{comes_after}
use Rattle.model.specs.Refusals.{half_given, needs, granted, lacks_right, past_date, missing, names_marker, barred, too_late, spends, full, short_for_page}
use Rattle.model.specs.Requests.{in_range}
use Rattle.model.specs.Rows.{sound_row}
use Rattle.model.specs.Run.{left}
use Rattle.model.specs.Settings.{sound_rules, sound_config, fits, sound}
use Rattle.blocks.specs.Blocks.{block_of, is_block}
use Rattle.settings.specs.Bytes.{rules_at, settings_of, settings_bytes, settings_length}
use Rattle.settings.specs.Meaning.{settings_sound}
use Rattle.bucket.specs.Whole.{whole, Lent, fresh_lent}
use Rattle.fields.specs.Fields.{rights_in, read_rights, read_key, read_prefix, read_version, read_mode, read_until, read_switch, read_hold, read_bypass}
use Rattle.request.specs.Grammar.{retention_at, terms_at, put_of, delete_of, query_by_word, other_by_word, verb_by_word, request_in, read_line, names_place, list_of, report_of}
use Rattle.answers.specs.Pages.{rows_said, lines_shown, last_key, last_version}
use Rattle.answers.specs.Text.{fields_text, ok_text, mode_text, until_text, hold_text, kind_fields, page_text}
use Rattle.outcome.specs.Calls.{Call, call}
use Rattle.outcome.specs.Outcome.{refusal_of, outcome}
use Rattle.knitpasture.specs.Bytes.{numbers_from, numbers_bytes, hub_served, fit_rows, hub_fresh, Bytes, as_bytes, lent_of}
use Rattle.guarantee.proofs.Pages.{pages_show_all, pages_show_all_bytes}
use Rattle.guarantee.proofs.Reports.{report_then_pages, pages_then_report, report_then_pages_bytes, pages_then_report_bytes}
use Rattle.guarantee.specs.Bytes.{fresh_bytes, byte_step}
use Rattle.guarantee.specs.Calls.{step}
use Rattle.guarantee.specs.Exchanges.{exchange, exchanges, byte_exchange, byte_exchanges}
use Rattle.guarantee.specs.Pages.{follow_pages, all_shown, ShowsEachOnce}
use Rattle.guarantee.specs.Reports.{is_report_of, now_sent, PrintsTotals}

-- A line in an answer buffer of this length, full of this byte.
abbrev sent : String → ℕ → ℕ → Call
sent s room byte = call (bytes s) (replicate room byte)

-- Several versions and a marker of `q/7`, a file on hold, a locked one, and keys on both sides of the prefix `q/`: `q` and `p` before it, `q0` behind.
abbrev puts : List Call
puts =
    sent "2026-01-05T08:00:00Z\tw\tPUT\tq/7\t41\t300\t-\t-\t-" 256 0
    ∷ sent "2026-01-05T08:00:00Z\twt\tPUT\tq/7\t42\t301\tCOMPLIANCE\t2033-01-05T00:00:00.007Z\t-" 256 0
    ∷ sent "2026-01-05T08:00:01Z\td\tDELETE\tq/7\t-\tno" 256 0
    ∷ sent "2026-01-05T08:00:02Z\twh\tPUT\tq/8\t43\t302\t-\t-\tON" 256 0
    ∷ sent "2026-01-05T08:00:02Z\tw\tPUT\tp\t44\t303\t-\t-\t-" 256 0
    ∷ sent "2026-01-05T08:00:02Z\tw\tPUT\tq\t45\t304\t-\t-\t-" 256 0
    ∷ sent "2026-01-05T08:00:02Z\tw\tPUT\tq0\t46\t305\t-\t-\t-" 256 0
    ∷ sent "2026-01-05T08:00:02Z\tw\tPUT\tq/9\t47\t306\t-\t-\t-" 256 0
    ∷ []

abbrev prefix : List ℕ
prefix = bytes "q/"

-- Pages of two rows; each next line has the key and the version of the last line before it.
abbrev pages : List Call
pages =
    sent "2026-01-06T09:00:00Z\tr\tLIST\tq/\t\t0\t2" 768 10
    ∷ sent "2026-01-06T09:00:00Z\tr\tLIST\tq/\tq/7\t2\t2" 768 57
    ∷ sent "2026-01-06T09:00:01Z\tr\tLIST\tq/\tq/8\t4\t2" 1000 9
    ∷ []

-- The bucket that is listed, as it is lent and as bytes.
abbrev filled : Lent
filled = left step (fresh_lent 8) puts

abbrev filled_bytes : Bytes
filled_bytes = left byte_step (fresh_bytes (as_bytes (replicate settings_length 90) (replicate 512 90) (replicate 512 90))) puts

abbrev lines : List (List ℕ)
lines =
    bytes "q/7\t3\tmarker\t2026-01-05T08:00:01.000Z\t-\t-\t-\t-\tOFF"
    ∷ bytes "q/7\t2\tdata\t2026-01-05T08:00:00.000Z\t42\t301\tCOMPLIANCE\t2033-01-05T00:00:00.007Z\tOFF"
    ∷ bytes "q/7\t1\tdata\t2026-01-05T08:00:00.000Z\t41\t300\t-\t-\tOFF"
    ∷ bytes "q/8\t4\tdata\t2026-01-05T08:00:02.000Z\t43\t302\t-\t-\tON"
    ∷ bytes "q/9\t8\tdata\t2026-01-05T08:00:02.000Z\t47\t306\t-\t-\tOFF"
    ∷ []

-- A REPORT 1 ms before the date of the file under COMPLIANCE, and at that date.
abbrev early : Call
early = sent "2033-01-05T00:00:00.006Z\tr\tREPORT\tq/" 256 57

abbrev late : Call
late = sent "2033-01-05T00:00:00.007Z\tr\tREPORT\tq/" 300 9

-- What the C entry leaves of the bucket after the pages.
abbrev listed : Bytes
listed = left byte_step filled_bytes pages

pub record PagesFollowed : Type 0 where
  pub follow : follow_pages prefix (exchanges filled pages) ≡ true
  pub shows : all_shown (exchanges filled pages) ≡ lines
  pub each_once : ShowsEachOnce prefix filled (all_shown (exchanges filled pages))
  -- The same through the C entry.
  pub follow_bytes : follow_pages prefix (byte_exchanges filled_bytes pages) ≡ true
  pub shows_bytes : all_shown (byte_exchanges filled_bytes pages) ≡ lines
  pub each_once_bytes : ShowsEachOnce prefix (lent_of filled_bytes) (all_shown (byte_exchanges filled_bytes pages))
  -- Four data rows, a marker, 1209 bytes; the file under COMPLIANCE and the one on hold are locked.
  pub early_reports : is_report_of prefix (exchange filled early) ≡ true
  pub early_prints : first_line (exchange filled early).answer ≡ bytes "ok\t4\t1\t1209\t2"
  pub early_pages : follow_pages prefix (exchanges (step filled early) pages) ≡ true
  pub early_totals : PrintsTotals (now_sent filled early.sent) (exchange filled early) (exchanges (step filled early) pages)
  -- At its date the first is locked no more.
  pub late_reports : is_report_of prefix (exchange (left step filled pages) late) ≡ true
  pub late_prints : first_line (exchange (left step filled pages) late).answer ≡ bytes "ok\t4\t1\t1209\t1"
  pub late_totals : PrintsTotals (now_sent (left step filled pages) late.sent) (exchange (left step filled pages) late) (exchanges filled pages)
  -- The same through the C entry.
  pub early_prints_bytes : first_line (byte_exchange filled_bytes early).answer ≡ bytes "ok\t4\t1\t1209\t2"
  pub early_totals_bytes : PrintsTotals (now_sent (lent_of filled_bytes) early.sent) (byte_exchange filled_bytes early) (byte_exchanges (byte_step filled_bytes early) pages)
  pub late_prints_bytes : first_line (byte_exchange listed late).answer ≡ bytes "ok\t4\t1\t1209\t1"
  pub late_totals_bytes : PrintsTotals (now_sent (lent_of listed) late.sent) (byte_exchange listed late) (byte_exchanges filled_bytes pages)

pub pages_followed : PagesFollowed
unfolding field_of place_of is_key_byte is_prefix is_key is_digit leading_zero number_of positive_of digits leap years_length month_start month_length valid_day days_of guess_of year_of month_of date_in civil_of date_text print_date digit_of two_digits four_digits day_number day_at second_of_day second_at fraction_digit milliseconds fraction_of read_date reply added rows_after config_after half_given needs granted lacks_right past_date missing names_marker barred too_late spends full in_range sound_row sound_rules sound_config fits sound block_of is_block whole rights_in read_rights read_key read_prefix read_version read_mode read_until read_switch read_hold read_bypass retention_at terms_at put_of delete_of query_by_word other_by_word verb_by_word request_in read_line fields_text ok_text mode_text until_text hold_text refusal_of outcome number numbers_from numbers_bytes spelled rules_at settings_of settings_bytes hub_served fit_rows hub_fresh settings_sound short_for_page comes_after names_place list_of report_of kind_fields page_text rows_said lines_shown last_key last_version locked
pages_followed =
    record {
      follow = refl;
      shows = refl;
      each_once = pages_show_all prefix filled pages refl;
      follow_bytes = refl;
      shows_bytes = refl;
      each_once_bytes = pages_show_all_bytes prefix filled_bytes pages refl;
      early_reports = refl;
      early_prints = refl;
      early_pages = refl;
      early_totals = report_then_pages prefix filled early pages refl refl;
      late_reports = refl;
      late_prints = refl;
      late_totals = pages_then_report prefix filled pages late refl refl;
      early_prints_bytes = refl;
      early_totals_bytes = report_then_pages_bytes prefix filled_bytes early pages refl refl;
      late_prints_bytes = refl;
      late_totals_bytes = pages_then_report_bytes prefix filled_bytes pages late refl refl;
    }
