-- Document 02, M-104: what is made by a default of years is kept until the same month, day and time of day in the later year, GET shows that date, and 10 comes where that year is above 9999.
use Rattle.std.specs.Prelude.{ℕ, ◌+◌, ◌<◌, max, ◌≡◌, Bool, true, ◌&&◌, ◌||◌, List}
use Rattle.std.specs.Prelude.{Some}
use Rattle.buffers.specs.Choices.{pick}
use Rattle.buffers.specs.Lists.{same}
use Rattle.buffers.specs.Texts.{bytes}
use Rattle.text.specs.Fields.{field_of}
use Rattle.text.specs.Lines.{first_line}
use Rattle.calendar.specs.Periods.{YearsEnd}
use Rattle.dates.specs.Reading.{read_date}
use Rattle.dates.specs.Printing.{print_date, PrintedYearsAfter}
use Rattle.model.specs.Settings.{Bucket}
use Rattle.model.specs.Years.{default_of, CountsYears, later_year, MadeForYears}
use Rattle.bucket.specs.Whole.{Lent, bucket_of}
use Rattle.outcome.specs.Calls.{Sent, Call}
use Rattle.outcome.specs.Outcome.{outcome}
use Rattle.knitpasture.specs.Bytes.{Bytes, lent_of, hub_served}
use Rattle.guarantee.specs.Calls.{step}
use Rattle.guarantee.specs.Bytes.{byte_step}
use Rattle.guarantee.specs.Exchanges.{Exchange, exchange, byte_exchange, sent_field, is_served}

-- ## A line that takes its lock from a default of years

abbrev pub says_put : Sent → Bool
says_put s = same (sent_field s 2) (bytes "PUT")

-- The key that a PUT or COPY gives its row.
abbrev pub key_sent : Sent → List ℕ
key_sent s = pick (says_put s) (sent_field s 3) (sent_field s 5)

-- The line is a PUT or COPY with `-` as its mode, which is field 6 of either, and has this clock; the bucket's default counts years.
pub record TakesYears (b : Bucket) (s : Sent) (clock : ℕ) : Type 0 where
  pub word : (says_put s || same (sent_field s 2) (bytes "COPY")) ≡ true
  pub no_mode : same (sent_field s 6) (bytes "-") ≡ true
  pub clock_read : read_date (sent_field s 0) ≡ Some clock
  pub counts_years : CountsYears b

-- The call took a version number, as every accepted PUT and COPY does that is no retry.
abbrev pub TakesNumber : Lent → Lent → Type 0
TakesNumber before after = after.settings.next ≡ before.settings.next + 1

-- ## The promises, on any bucket, with answer buffers of any contents and lengths

-- It adds a row that is kept until the years end.
abbrev pub KeptForYears : Type 0
KeptForYears = (b : Lent) (g : Call) (clock : ℕ) → TakesYears (bucket_of b) g.sent clock → TakesNumber b (step b g)
    → MadeForYears clock (bucket_of b) (key_sent g.sent) (bucket_of (step b g))

-- An exchange is a GET, accepted, of a key's current version.
abbrev pub shows_current : List ℕ → Exchange → Bool
shows_current k e = is_served (bytes "GET") e && (same (sent_field e.sent 3) k && same (sent_field e.sent 4) (bytes "-"))

-- The fifth field behind `ok` is a date at which these years end, and reads so beside the text of now.
pub record EndIsShown (years now : ℕ) (answer : List ℕ) : Type 0 where
  pub end : ℕ
  pub reads : read_date (field_of (first_line answer) 5) ≡ Some end
  pub ends : YearsEnd years now end
  pub printed : PrintedYearsAfter years (print_date now) (field_of (first_line answer) 5)

-- A GET of its key's current version, on the bucket that it left, shows when they end.
abbrev pub ShowsYears : Type 0
ShowsYears = (b : Lent) (g get : Call) (clock : ℕ) → TakesYears (bucket_of b) g.sent clock → TakesNumber b (step b g)
    → shows_current (key_sent g.sent) (exchange (step b g) get) ≡ true
    → EndIsShown (default_of (bucket_of b)).count (max b.settings.time clock) (outcome (step b g) get).answer

-- 10 comes only where the later year is above 9999. There no number is taken, and nothing behind 10 is met: what is accepted is a retry.
pub record TenWhereLate (later number : ℕ) (Taken : Type 0) : Type 0 where
  pub only_there : number ≡ 10 → 9999 < later
  pub none_taken : 9999 < later → Taken → ⊥
  pub not_11 : 9999 < later → number ≡ 11 → ⊥
  pub not_12 : 9999 < later → number ≡ 12 → ⊥

abbrev pub TenByYears : Type 0
TenByYears = (b : Lent) (g : Call) (clock : ℕ) → TakesYears (bucket_of b) g.sent clock → TenWhereLate (later_year clock (bucket_of b)) (outcome b g).number (TakesNumber b (step b g))

-- ## The same of the C entry, with bytes of any contents and lengths

abbrev pub KeptForYearsBytes : Type 0
KeptForYearsBytes = (b : Bytes) (g : Call) (clock : ℕ) → TakesYears (bucket_of (lent_of b)) g.sent clock → TakesNumber (lent_of b) (lent_of (byte_step b g))
    → MadeForYears clock (bucket_of (lent_of b)) (key_sent g.sent) (bucket_of (lent_of (byte_step b g)))

abbrev pub ShowsYearsBytes : Type 0
ShowsYearsBytes = (b : Bytes) (g get : Call) (clock : ℕ) → TakesYears (bucket_of (lent_of b)) g.sent clock → TakesNumber (lent_of b) (lent_of (byte_step b g))
    → shows_current (key_sent g.sent) (byte_exchange (byte_step b g) get) ≡ true
    → EndIsShown (default_of (bucket_of (lent_of b))).count (max (lent_of b).settings.time clock) (hub_served (byte_step b g) get).answer

abbrev pub TenByYearsBytes : Type 0
TenByYearsBytes = (b : Bytes) (g : Call) (clock : ℕ) → TakesYears (bucket_of (lent_of b)) g.sent clock
    → TenWhereLate (later_year clock (bucket_of (lent_of b))) (hub_served b g).number (TakesNumber (lent_of b) (lent_of (byte_step b g)))
