-- Document 02, M-106: the lock clause runs on from a bucket carried over, and what was whole before is whole.
use Rattle.std.specs.Prelude.{ℕ, ◌≡◌, Bool, true, ◌&&◌, List, leb}
use Rattle.buffers.specs.Lists.{all, same}
use Rattle.calendar.specs.Calendar.{latest}
use Rattle.model.specs.Rows.{ordered, sound_row}
use Rattle.model.specs.Settings.{Settings, Bucket, sound_config, fits}
use Rattle.model.specs.Run.{left}
use Rattle.model.specs.LockClause.{distinct}
use Rattle.settings.specs.Meaning.{prefixes_are}
use Rattle.table.specs.Layout.{numbers_of, keys_of, capacity}
use Rattle.bucket.specs.Whole.{Lent, used_rows, bucket_of, whole}
use Rattle.outcome.specs.Calls.{Call}
use Rattle.knitpasture.specs.Bytes.{Bytes, lent_of, hub_served}
use Rattle.guarantee.specs.Calls.{step}
use Rattle.guarantee.specs.Promise.{KeptSince}
use Rattle.guarantee.specs.Bytes.{Sized, byte_step, KeptSinceBytes}

-- ## The lock clause runs on

-- A bucket that can be carried over: refusal 1 does not meet it, and its version numbers all differ.
pub record Carriable (b : Lent) : Type 0 where
  pub is_whole : whole b ≡ true
  pub numbers_differ : distinct (bucket_of b).rows ≡ true

-- From there, over any list of calls, the lock clause.
abbrev pub RunsOn : Type 0
RunsOn = (b : Lent) → Carriable b → (gs : List Call) → KeptSince b gs

-- What the calls leave can be carried over again.
abbrev pub CarriedAgain : Type 0
CarriedAgain = (b : Lent) → Carriable b → (gs : List Call) → Carriable (left step b gs)

-- Both of the C entry, with bytes of the lengths of some c.
abbrev pub RunsOnBytes : Type 0
RunsOnBytes = (c : ℕ) (b : Bytes) → Sized c b → Carriable (lent_of b) → (gs : List Call) → KeptSinceBytes b gs

abbrev pub CarriedAgainBytes : Type 0
CarriedAgainBytes = (c : ℕ) (b : Bytes) → Sized c b → Carriable (lent_of b) → (gs : List Call) → Carriable (lent_of (left byte_step b gs))

-- What they ask can be seen: a call that does not return 1 tells that the bytes have the lengths of some c and spell a whole bucket; LIST shows the numbers.
abbrev pub SeenWhole : Type 0
SeenWhole = (b : Bytes) (g : Call) → ((hub_served b g).number ≡ 1 → ⊥) → Sized (capacity b.keys) b × (whole (lent_of b) ≡ true)

-- ## What was whole before

-- As the releases up to 1.6.0 had it: version numbers ended at 4294967295, and a next number of 4294967296 meant spent.
abbrev pub settings_before : Settings → Bool
settings_before s = leb s.time latest && (leb 1 s.next && (leb s.next 4294967296 && sound_config s.config))

abbrev pub sound_before : ℕ → Bucket → Bool
sound_before c b =
    fits c b.settings.config b.rows
    && (settings_before b.settings
    && (ordered b.rows
    && all (sound_row b.settings.next b.settings.time) b.rows))

abbrev pub whole_before : Lent → Bool
whole_before b =
    let c = capacity b.keys in
    leb 1 c
    && (leb c 1024
    && (leb b.settings.used c
    && (same b.numbers (numbers_of c (used_rows b))
    && (same b.keys (keys_of c (used_rows b))
    && (prefixes_are b.settings.rules
    && sound_before c (bucket_of b))))))

-- It is whole now, with the rows that it had: those of `bucket_of`.
abbrev pub WholeStill : Type 0
WholeStill = (b : Lent) → whole_before b ≡ true → whole b ≡ true

-- So no call of the C entry meets 1 on it.
abbrev pub ServedStill : Type 0
ServedStill = (c : ℕ) (b : Bytes) → Sized c b → whole_before (lent_of b) ≡ true → (g : Call) → (hub_served b g).number ≡ 1 → ⊥
