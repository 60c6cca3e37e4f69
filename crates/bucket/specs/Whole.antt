-- The bucket as it is lent, and 01, refusal 1: the buffers' lengths fit one c, and the whole is sound.
use Rattle.std.specs.Prelude.{ℕ, ◌*◌, Bool, ◌&&◌, List, [], leb, ltb, length, take, drop, replicate}
use Rattle.buffers.specs.Choices.{pick}
use Rattle.buffers.specs.Lists.{same}
use Rattle.blocks.specs.Blocks.{key_in}
use Rattle.model.specs.Rows.{Row}
use Rattle.model.specs.Settings.{Bucket, sound}
use Rattle.settings.specs.declared.Settings.{Settings}
use Rattle.settings.specs.declared.State.{State}
use Rattle.settings.specs.Bytes.{settings_with}
use Rattle.settings.specs.Meaning.{settings_mean, settings_from, fresh_settings, prefixes_are}
use Rattle.table.specs.Layout.{numbers_of, keys_of, rows_of, capacity}

-- The bucket as it is lent: its settings, the numbers of its rows, and their key bytes.
pub record Lent : Type 0 where
  pub settings : Settings
  pub numbers : List ℕ
  pub keys : List ℕ

abbrev pub lent : Settings → List ℕ → List ℕ → Lent
lent s numbers keys = record { settings = s; numbers = numbers; keys = keys }

-- The same with the settings by their state and entries.
abbrev pub lent_with : State → List ℕ → List ℕ → List ℕ → Lent
lent_with s entries numbers keys = lent (settings_with s entries) numbers keys

-- Fresh: next number 1, everything else zero.
abbrev pub fresh_lent : ℕ → Lent
fresh_lent c = lent fresh_settings (replicate (8 * c) 0) (replicate (64 * c) 0)

-- the used rows
abbrev pub used_rows : Lent → List Row
used_rows b = rows_of b.numbers b.keys b.settings.used

-- the bucket that is lent
abbrev pub bucket_of : Lent → Bucket
bucket_of b = record { settings = settings_mean b.settings; rows = used_rows b }

-- a bucket, as it is lent with room for c rows
abbrev pub laid_out : ℕ → Bucket → Lent
laid_out c x = lent (settings_from x.settings (length x.rows)) (numbers_of c x.rows) (keys_of c x.rows)

-- c is 1 to 1024 and has room for the used rows; the buffers are what those rows are written as, so the rest is zero; the prefixes are what they are written as; and the bucket is sound
unfoldable pub whole : Lent → Bool
whole b =
    let c = capacity b.keys in
    leb 1 c
    && (leb c 1024
    && (leb b.settings.used c
    && (same b.numbers (numbers_of c (used_rows b))
    && (same b.keys (keys_of c (used_rows b))
    && (prefixes_are b.settings.rules
    && sound c (bucket_of b))))))

-- the key of a used row, counted from 0; nothing at any other position, or where refusal 1 would be met
unfoldable pub key_of : Lent → ℕ → List ℕ
key_of b i = pick (whole b && ltb i b.settings.used) (key_in (take 64 (drop (64 * i) b.keys))) []
