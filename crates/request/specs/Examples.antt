-- The lines of 01's run as they are read, and lines that can't be read.
use Rattle.std.specs.Prelude.{ℕ, ◌≡◌, refl, true, false, List, [], ◌∷◌, ◌++◌, eqb, replicate}
use Rattle.std.specs.Prelude.{Option, Some, None}
use Rattle.buffers.specs.Choices.{pick}
use Rattle.buffers.specs.Texts.{bytes}
use Rattle.text.specs.Numbers.{is_digit, leading_zero, number_of, positive_of}
use Rattle.text.specs.Fields.{field_of, place_of}
use Rattle.text.specs.Keys.{is_key_byte, is_prefix, is_key}
use Rattle.calendar.specs.Calendar.{leap, years_length, month_start, month_length, valid_day, days_of}
use Rattle.dates.specs.Reading.{digit_of, two_digits, four_digits, day_number, day_at, second_of_day, second_at, fraction_digit, milliseconds, fraction_of, read_date}
use Rattle.model.specs.Rows.{compliance}
use Rattle.model.specs.Settings.{days}
use Rattle.model.specs.Requests.{Rights, numbered, name, no_retention, Verb, Put, AddMarker, DeleteVersion, Set, DefaultRetention, Ask, Get, page, ListVersions, Report}
use Rattle.fields.specs.Fields.{rights_in, read_rights, read_key, read_prefix, read_version, read_mode, read_until, read_hold, read_bypass, read_period}
use Rattle.fields.specs.declared.Terms.{Terms}
use Rattle.request.specs.declared.Action.TheVariants.{Copy}
use Rattle.request.specs.declared.Verb.TheVariants.{Act}
use Rattle.request.specs.Grammar.{name_at, retention_at, terms_at, put_of, copy_of, delete_of, default_of, get_of, names_place, list_of, report_of, query_by_word, other_by_word, verb_by_word, request_in, Said, read_line}

-- the bytes of a text in which `|` stands for a tab
abbrev with_tabs : List ℕ → List ℕ
with_tabs [] = []
with_tabs (b ∷ s) = pick (eqb b 124) 9 b ∷ with_tabs s

-- this clock, these rights, this verb
abbrev asks : ℕ → Rights → Verb → Option Said
asks clock who verb = Some (record { clock = clock; who = who; verb = verb })

-- right r alone
abbrev reader : Rights
reader = record { r = true; w = false; d = false; t = false; h = false; b = false; c = false }

-- no mode, no date, no hold
abbrev no_terms : Terms
no_terms = record { retention = record { mode = None; until = None }; hold = None }

-- what the definitions say of these lines
pub record Examples : Type 0 where
  -- 01's run
  pub default : read_line (with_tabs (bytes "2024-03-01T00:00:00Z|c|DEFAULT|COMPLIANCE|1d"))
      ≡ asks 1709251200000 (record { r = false; w = false; d = false; t = false; h = false; b = false; c = true })
      (Set (DefaultRetention (Some compliance) (Some (record { count = 1; unit = days }))))
  pub put : read_line (with_tabs (bytes "2024-03-01T00:00:00Z|w|PUT|q/7|41|300|-|-|-"))
      ≡ asks 1709251200000 (record { r = false; w = true; d = false; t = false; h = false; b = false; c = false })
      (Put (bytes "q/7") 41 300 (record { retention = no_retention; hold = None }))
  pub delete_locked : read_line (with_tabs (bytes "2024-03-01T12:00:00Z|db|DELETE|q/7|1|yes"))
      ≡ asks 1709294400000 (record { r = false; w = false; d = true; t = false; h = false; b = true; c = false })
      (DeleteVersion (bytes "q/7") (numbered 1) true)
  pub delete_current : read_line (with_tabs (bytes "2024-03-01T12:00:00Z|d|DELETE|q/7|-|no"))
      ≡ asks 1709294400000 (record { r = false; w = false; d = true; t = false; h = false; b = false; c = false })
      (AddMarker (bytes "q/7") false)
  pub get_numbered : read_line (with_tabs (bytes "2024-03-01T06:00:00Z|r|GET|q/7|1"))
      ≡ asks 1709272800000 reader
      (Ask (Get (name (bytes "q/7") (Some (numbered 1)))))
  pub delete_expired : read_line (with_tabs (bytes "2024-03-02T00:00:00Z|d|DELETE|q/7|1|no"))
      ≡ asks 1709337600000 (record { r = false; w = false; d = true; t = false; h = false; b = false; c = false })
      (DeleteVersion (bytes "q/7") (numbered 1) false)
  pub get_current : read_line (with_tabs (bytes "2024-03-02T00:00:00Z|r|GET|q/7|-"))
      ≡ asks 1709337600000 reader
      (Ask (Get (name (bytes "q/7") None)))
  -- a COPY's source and target are the places of their fields
  pub copy_places : request_in (with_tabs (bytes "2024-03-01T00:00:00Z|rw|COPY|a|-|b|-|-|-"))
      ≡ Some (record {
        clock = 1709251200000;
        rights = record { r = true; w = true; d = false; t = false; h = false; b = false; c = false };
        verb = Act (Copy (record { key = record { start = 29; len = 1 }; version = None }) (record { start = 33; len = 1 }) no_terms);
      })
  -- pages: from the start, and from a place that needs no row
  pub list_first : read_line (with_tabs (bytes "2024-03-01T00:00:00Z|r|LIST|q/||0|1000")) ≡ asks 1709251200000 reader (Ask (ListVersions (page (bytes "q/") [] 0 1000)))
  pub list_next : read_line (with_tabs (bytes "2024-03-01T00:00:00Z|r|LIST||q/7|18446744073709551614|1")) ≡ asks 1709251200000 reader (Ask (ListVersions (page [] (bytes "q/7") 18446744073709551614 1)))
  pub list_dashes : read_line (with_tabs (bytes "2024-03-01T00:00:00Z|r|LIST|-|-|0|1")) ≡ asks 1709251200000 reader (Ask (ListVersions (page (bytes "-") (bytes "-") 0 1)))
  -- totals of a prefix, and of all rows
  pub report : read_line (with_tabs (bytes "2024-03-01T00:00:00Z|r|REPORT|q/")) ≡ asks 1709251200000 reader (Ask (Report (bytes "q/")))
  pub report_all : read_line (with_tabs (bytes "2024-03-01T00:00:00Z|r|REPORT|")) ≡ asks 1709251200000 reader (Ask (Report []))
  -- can't be read
  pub report_bare : read_line (with_tabs (bytes "2024-03-01T00:00:00Z|r|REPORT")) ≡ None
  pub report_two : read_line (with_tabs (bytes "2024-03-01T00:00:00Z|r|REPORT|q/|r/")) ≡ None
  pub empty_key_version : read_line (with_tabs (bytes "2024-03-01T00:00:00Z|r|LIST|q/||1|10")) ≡ None
  pub version_spent : read_line (with_tabs (bytes "2024-03-01T00:00:00Z|r|LIST|q/|q/7|18446744073709551615|10")) ≡ None
  pub version_dash : read_line (with_tabs (bytes "2024-03-01T00:00:00Z|r|LIST|q/|q/7|-|10")) ≡ None
  pub count_zero : read_line (with_tabs (bytes "2024-03-01T00:00:00Z|r|LIST|q/||0|0")) ≡ None
  pub count_large : read_line (with_tabs (bytes "2024-03-01T00:00:00Z|r|LIST|q/||0|1001")) ≡ None
  pub version_zero : read_line (with_tabs (bytes "2024-03-01T00:00:00Z|r|GET|q/7|0")) ≡ None
  pub no_rights : read_line (with_tabs (bytes "2024-03-01T00:00:00Z||GET|q/7|1")) ≡ None
  pub letter_twice : read_line (with_tabs (bytes "2024-03-01T00:00:00Z|rwr|GET|q/7|1")) ≡ None
  pub other_letter : read_line (with_tabs (bytes "2024-03-01T00:00:00Z|rx|GET|q/7|1")) ≡ None
  pub lower_case : read_line (with_tabs (bytes "2024-03-01T00:00:00Z|r|get|q/7|1")) ≡ None
  pub field_too_many : read_line (with_tabs (bytes "2024-03-01T00:00:00Z|r|GET|q/7|1|")) ≡ None
  pub field_too_few : read_line (with_tabs (bytes "2024-03-01T00:00:00Z|r|GET|q/7")) ≡ None
  pub empty : read_line [] ≡ None
  pub too_long : read_line (with_tabs (bytes "2024-03-01T00:00:00Z|r|GET|") ++ replicate 486 97) ≡ None

-- each by computing
pub examples : Examples
unfolding is_digit leading_zero number_of positive_of field_of place_of is_key_byte is_prefix is_key leap years_length month_start month_length valid_day days_of digit_of two_digits four_digits day_number day_at second_of_day second_at fraction_digit milliseconds fraction_of read_date rights_in read_rights read_key read_prefix read_version read_mode read_until read_hold read_bypass read_period name_at retention_at terms_at put_of copy_of delete_of default_of get_of names_place list_of report_of query_by_word other_by_word verb_by_word request_in read_line
examples =
    record {
      default = refl;
      put = refl;
      delete_locked = refl;
      delete_current = refl;
      get_numbered = refl;
      delete_expired = refl;
      get_current = refl;
      copy_places = refl;
      list_first = refl;
      list_next = refl;
      list_dashes = refl;
      report = refl;
      report_all = refl;
      report_bare = refl;
      report_two = refl;
      empty_key_version = refl;
      version_spent = refl;
      version_dash = refl;
      count_zero = refl;
      count_large = refl;
      version_zero = refl;
      no_rights = refl;
      letter_twice = refl;
      other_letter = refl;
      lower_case = refl;
      field_too_many = refl;
      field_too_few = refl;
      empty = refl;
      too_long = refl;
    }
