-- Document 02, M-105: each number that REPORT prints is the count or sum over the lines that LIST prints for that prefix, followed to its end.
use Rattle.std.specs.Prelude.{ℕ, max, ◌≡◌, Bool, true, ◌&&◌, ◌||◌, List, ◌∷◌, ltb, length}
use Rattle.buffers.specs.Choices.{or_zero}
use Rattle.buffers.specs.Lists.{keep, total, same}
use Rattle.buffers.specs.Texts.{bytes}
use Rattle.text.specs.Numbers.{number_of}
use Rattle.text.specs.Fields.{fields, field_of}
use Rattle.text.specs.Lines.{first_line}
use Rattle.dates.specs.Reading.{read_date}
use Rattle.model.specs.Rows.{largest_size}
use Rattle.model.specs.Reports.{Totals}
use Rattle.model.specs.Run.{left}
use Rattle.bucket.specs.Whole.{Lent}
use Rattle.answers.specs.Text.{totals_fields}
use Rattle.outcome.specs.Calls.{Sent, Call}
use Rattle.knitpasture.specs.Bytes.{Bytes, lent_of}
use Rattle.guarantee.specs.Calls.{step}
use Rattle.guarantee.specs.Bytes.{byte_step}
use Rattle.guarantee.specs.Exchanges.{Exchange, exchange, exchanges, byte_exchange, byte_exchanges, sent_field, is_served}
use Rattle.guarantee.specs.Pages.{follow_pages, all_shown}

-- ## What a line of a page says, by its fields

abbrev pub says_data : List ℕ → Bool
says_data l = same (field_of l 2) (bytes "data")

abbrev pub says_marker : List ℕ → Bool
says_marker l = same (field_of l 2) (bytes "marker")

abbrev pub length_said : List ℕ → ℕ
length_said l = or_zero (number_of largest_size (field_of l 5))

abbrev pub says_mode : List ℕ → Bool
says_mode l = same (field_of l 6) (bytes "GOVERNANCE") || same (field_of l 6) (bytes "COMPLIANCE")

-- Locked without bypass: the hold is ON; or there is a mode, and now is before the date.
abbrev pub says_locked : ℕ → List ℕ → Bool
says_locked now l = same (field_of l 8) (bytes "ON") || (says_mode l && ltb now (or_zero (read_date (field_of l 7))))

-- The counts and the sum over some lines.
abbrev pub totals_shown : ℕ → List (List ℕ) → Totals
totals_shown now ls =
    record {
      versions = length (keep says_data ls);
      markers = length (keep says_marker ls);
      size = total length_said (keep says_data ls);
      locked = length (keep (λ l. says_data l && says_locked now l) ls);
    }

-- ## A REPORT

-- REPORT was sent with this prefix, byte for byte, and accepted.
abbrev pub is_report_of : List ℕ → Exchange → Bool
is_report_of prefix e = is_served (bytes "REPORT") e && same (sent_field e.sent 3) prefix

-- Now: the later of the bucket's time and the clock that was sent.
abbrev pub now_sent : Lent → Sent → ℕ
now_sent b s = max b.settings.time (or_zero (read_date (sent_field s 0)))

-- The first line of its answer has five fields: `ok` and the four numbers that the pages' lines come to at this instant.
abbrev pub PrintsTotals : ℕ → Exchange → List Exchange → Type 0
PrintsTotals now e pages = fields (first_line e.answer) ≡ bytes "ok" ∷ totals_fields (totals_shown now (all_shown pages))

-- ## The promise: a REPORT, and accepted pages of its prefix from the start to their end, with no other line between; on any bucket, with answer buffers of any contents and lengths

-- The pages come after the REPORT.
abbrev pub ReportThenPages : Type 0
ReportThenPages = (prefix : List ℕ) (b : Lent) (g : Call) (gs : List Call) → is_report_of prefix (exchange b g) ≡ true → follow_pages prefix (exchanges (step b g) gs) ≡ true
    → PrintsTotals (now_sent b g.sent) (exchange b g) (exchanges (step b g) gs)

-- The pages come before it.
abbrev pub PagesThenReport : Type 0
PagesThenReport = (prefix : List ℕ) (b : Lent) (gs : List Call) (g : Call) → follow_pages prefix (exchanges b gs) ≡ true → is_report_of prefix (exchange (left step b gs) g) ≡ true
    → PrintsTotals (now_sent (left step b gs) g.sent) (exchange (left step b gs) g) (exchanges b gs)

-- ## The same of the C entry, with bytes of any contents and lengths

abbrev pub ReportThenPagesBytes : Type 0
ReportThenPagesBytes = (prefix : List ℕ) (b : Bytes) (g : Call) (gs : List Call) → is_report_of prefix (byte_exchange b g) ≡ true → follow_pages prefix (byte_exchanges (byte_step b g) gs) ≡ true
    → PrintsTotals (now_sent (lent_of b) g.sent) (byte_exchange b g) (byte_exchanges (byte_step b g) gs)

abbrev pub PagesThenReportBytes : Type 0
PagesThenReportBytes = (prefix : List ℕ) (b : Bytes) (gs : List Call) (g : Call) → follow_pages prefix (byte_exchanges b gs) ≡ true → is_report_of prefix (byte_exchange (left byte_step b gs) g) ≡ true
    → PrintsTotals (now_sent (lent_of (left byte_step b gs)) g.sent) (byte_exchange (left byte_step b gs) g) (byte_exchanges b gs)
