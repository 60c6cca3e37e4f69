-- Document 02, M-103: an accepted SWEEP compares each rule that is set with each different key once, and any other call counts none.
use Rattle.std.specs.Prelude.{ℕ, ◌*◌, ◌≡◌, true, false, List, length}
use Rattle.model.specs.Settings.{Bucket}
use Rattle.model.specs.Comparisons.{set_rules, row_keys, Different}
use Rattle.bucket.specs.Whole.{Lent, bucket_of}
use Rattle.outcome.specs.Calls.{Call}
use Rattle.outcome.specs.Comparisons.{comparisons_of}
use Rattle.knitpasture.specs.Bytes.{Bytes, lent_of, hub_counted}
use Rattle.guarantee.specs.Exchanges.{exchange, byte_exchange, is_sweep}

-- This many comparisons: each rule of the bucket that is set, with each of the keys that its rows have, whichever list has them all and none twice.
abbrev pub EachOnce : Bucket → ℕ → Type 0
EachOnce b count = (keys : List (List ℕ)) → Different (row_keys b.rows) keys → count ≡ length (set_rules b.settings.config.rules) * length keys

-- ## A call of the engine, whose count is `comparisons_of`

-- On any bucket, with an answer buffer of any contents.
pub record CountedOnce (b : Lent) (g : Call) : Type 0 where
  pub sweep : is_sweep (exchange b g) ≡ true → EachOnce (bucket_of b) (comparisons_of b g)
  pub other : is_sweep (exchange b g) ≡ false → comparisons_of b g ≡ 0

abbrev pub CountsOnce : Type 0
CountsOnce = (b : Lent) (g : Call) → CountedOnce b g

-- ## A call of `knitpasture_serve_counted`, which leaves `hub_counted` in the place of the count

-- With bytes of any contents and lengths, whatever stood in the place before.
pub record CountedOnceBytes (b : Bytes) (g : Call) (before : ℕ) : Type 0 where
  pub sweep : is_sweep (byte_exchange b g) ≡ true → EachOnce (bucket_of (lent_of b)) (hub_counted b g before)
  pub other : (byte_exchange b g).number ≡ 0 → is_sweep (byte_exchange b g) ≡ false → hub_counted b g before ≡ 0
  pub refused : ((byte_exchange b g).number ≡ 0 → ⊥) → hub_counted b g before ≡ before

abbrev pub CountsOnceBytes : Type 0
CountsOnceBytes = (b : Bytes) (g : Call) (before : ℕ) → CountedOnceBytes b g before
