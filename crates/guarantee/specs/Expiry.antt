-- Document 02, M-102: an accepted SWEEP marks and removes by midnights.
use Rattle.std.specs.Prelude.{ℕ, ◌≡◌, true}
use Rattle.std.specs.Prelude.{Some}
use Rattle.dates.specs.Reading.{read_date}
use Rattle.model.specs.Expiry.{SweptByMidnights}
use Rattle.bucket.specs.Whole.{Lent, bucket_of}
use Rattle.outcome.specs.Calls.{Call}
use Rattle.knitpasture.specs.Bytes.{Bytes, lent_of}
use Rattle.guarantee.specs.Calls.{step}
use Rattle.guarantee.specs.Bytes.{byte_step}
use Rattle.guarantee.specs.Exchanges.{exchange, byte_exchange, sent_field, is_sweep}

-- On any bucket, with an answer buffer of any contents; the clock is read off the line.
abbrev pub SweepsByMidnights : Type 0
SweepsByMidnights = (b : Lent) (g : Call) (clock : ℕ) → is_sweep (exchange b g) ≡ true → read_date (sent_field g.sent 0) ≡ Some clock
    → SweptByMidnights clock (bucket_of b) (bucket_of (step b g))

-- The same of the C entry, with bytes of any contents and lengths.
abbrev pub SweepsByMidnightsBytes : Type 0
SweepsByMidnightsBytes = (b : Bytes) (g : Call) (clock : ℕ) → is_sweep (byte_exchange b g) ≡ true → read_date (sent_field g.sent 0) ≡ Some clock
    → SweptByMidnights clock (bucket_of (lent_of b)) (bucket_of (lent_of (byte_step b g)))
