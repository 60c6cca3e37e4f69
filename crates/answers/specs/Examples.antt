-- The answers that the paper's run prints, that of a version on hold, and a page.
use Rattle.std.specs.Prelude.{◌≡◌, refl, List, [], ◌∷◌, ◌++◌}
use Rattle.buffers.specs.Texts.{bytes}
use Rattle.text.specs.Numbers.{is_digit, leading_zero, number_of}
use Rattle.text.specs.Fields.{fields, field_of}
use Rattle.text.specs.Printing.{digits}
use Rattle.calendar.specs.Calendar.{leap, years_length, month_start, guess_of, year_of, month_of, date_in, civil_of}
use Rattle.dates.specs.Printing.{date_text, print_date}
use Rattle.model.specs.Rows.{Row, compliance}
use Rattle.model.specs.Requests.{numbered}
use Rattle.model.specs.Answers as model
use Rattle.answers.specs.Text.{fields_text, ok_text, mode_text, until_text, hold_text, kind_fields, line_fields, row_line, row_text, page_text, answer_text}
use Rattle.answers.specs.Pages.{rows_said, lines_shown, last_key, last_version}

-- the version that the run's PUT made, under the default retention
abbrev retained : Row
retained = record { number = 1; kind = 1; created = 1709251200000; body = 41; size = 300; mode = compliance; until = 1709337600000; hold = 0; key = bytes "q/7" }

-- a version without retention, on hold
abbrev held : Row
held = record { number = 2; kind = 1; created = 0; body = 0; size = 0; mode = 0; until = 0; hold = 1; key = bytes "q/7" }

-- a marker of that key
abbrev gone : Row
gone = record { number = 3; kind = 2; created = 1709337600000; body = 0; size = 0; mode = 0; until = 0; hold = 0; key = bytes "q/7" }

-- a page that shows the marker and the version on hold
abbrev listing : List Row
listing = gone ∷ held ∷ []

pub record Examples : Type 0 where
  pub default : answer_text model.done ≡ bytes "ok\n"
  pub put : answer_text (model.made (numbered 1)) ≡ bytes "ok\t1\n"
  pub delete_marks : answer_text (model.marked (numbered 2)) ≡ bytes "ok\t2\tmarker\n"
  pub get : answer_text (model.shown retained) ≡ bytes "ok\t1\t41\t300\tCOMPLIANCE\t2024-03-02T00:00:00.000Z\tOFF\n"
  pub get_held : answer_text (model.shown held) ≡ bytes "ok\t2\t0\t0\t-\t-\tON\n"
  pub delete_removes : answer_text (model.removed (numbered 1)) ≡ bytes "ok\t1\tremoved\n"
  pub data_line : row_text retained ≡ bytes "q/7\t1\tdata\t2024-03-01T00:00:00.000Z\t41\t300\tCOMPLIANCE\t2024-03-02T00:00:00.000Z\tOFF\n"
  pub marker_line : row_text gone ≡ bytes "q/7\t3\tmarker\t2024-03-02T00:00:00.000Z\t-\t-\t-\t-\tOFF\n"
  pub nine : fields (row_line gone) ≡ line_fields gone
  pub empty_page : answer_text (model.listed []) ≡ bytes "ok\t0\n"
  pub page : answer_text (model.listed listing) ≡ bytes "ok\t2\nq/7\t3\tmarker\t2024-03-02T00:00:00.000Z\t-\t-\t-\t-\tOFF\nq/7\t2\tdata\t1970-01-01T00:00:00.000Z\t0\t0\t-\t-\tON\n"
  pub totals : answer_text (model.reported (record { versions = 3; markers = 1; size = 910; locked = 0 })) ≡ bytes "ok\t3\t1\t910\t0\n"
  -- what is read off a buffer in which an older answer stands behind the page
  pub page_read : lines_shown (page_text listing ++ bytes "old\n") ≡ row_line gone ∷ row_line held ∷ []
  pub next_key : last_key (page_text listing ++ bytes "old\n") ≡ bytes "q/7"
  pub next_version : last_version (page_text listing ++ bytes "old\n") ≡ bytes "2"

pub examples : Examples
unfolding is_digit leading_zero number_of field_of digits leap years_length month_start guess_of year_of month_of date_in civil_of date_text print_date fields_text ok_text mode_text until_text hold_text kind_fields page_text rows_said lines_shown last_key last_version
examples =
    record {
      default = refl;
      put = refl;
      delete_marks = refl;
      get = refl;
      get_held = refl;
      delete_removes = refl;
      data_line = refl;
      marker_line = refl;
      nine = refl;
      empty_page = refl;
      page = refl;
      totals = refl;
      page_read = refl;
      next_key = refl;
      next_version = refl;
    }
