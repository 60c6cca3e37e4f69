-- A fresh bucket over bytes: what is returned, and that a fresh bucket is handed on.
use Prim.Native.Nat.{ℕ, ◌*◌, ◌%◌, ◌≤◌}
use mathlib.Core.Path.{◌≡◌, sym, ◌∙◌}
use native.Mathlib.Omega.{arith}
use lib.ListN.{length, replicate}
use borrow.Author.Tests.{eq-eqb, le-ltb}
use Rattle.settings.specs.Bytes.{settings_length, settings_bytes}
use Rattle.settings.specs.Meaning.{fresh_settings}
use Rattle.bucket.specs.Whole.{fresh_lent}
use Rattle.bucket.proofs.Whole.{fresh_whole}
use Rattle.knitpasture.specs.Bytes.{numbers_bytes, table_length, Bytes, as_bytes, fresh_outcome, fit_rows, hub_fresh}
use Rattle.knitpasture.proofs.Numbers.{zeros_written}
use Rattle.knitpasture.proofs.Hub.{HandsOn, whole_hands_on}

-- Rows and keys for c rows.
module _ (b : Bytes) (c : ℕ) (some : 1 ≤ c) (most : c ≤ 1024) (ls : length b.settings ≡ settings_length) (lr : length b.rows ≡ 64 * c) (lk : length b.keys ≡ 64 * c) where
  pub fresh_made : hub_fresh b ≡ fresh_outcome 0 (as_bytes (settings_bytes fresh_settings) (numbers_bytes (replicate (8 * c) 0)) (replicate (64 * c) 0))
  unfolding hub_fresh fit_rows
  fresh_made =
      let n = length b.keys in
      let a : n % 64 ≡ 0 = omega (arith, lk) in
      let m : 8 * (8 * c) ≡ 64 * c = omega arith in
      simp (eq-eqb (length b.settings) settings_length ls, eq-eqb (length b.rows) n (lr ∙ sym lk), le-ltb n 64 (omega arith), le-ltb table_length n (omega arith), eq-eqb (n % 64) 0 a)
      (rw (lr, lk, zeros_written (8 * c), m))

  pub fresh_hands_on : HandsOn (fresh_lent c) (hub_fresh b).bytes
  fresh_hands_on = rw fresh_made (whole_hands_on (fresh_lent c) (fresh_whole c some most))
