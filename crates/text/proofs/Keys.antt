-- Keys and prefixes: at most 63 bytes, each of which may stand in a key.
use Prim.Native.Nat.{ℕ, ◌≤◌}
use mathlib.Core.Path.{◌≡◌}
use mathlib.Core.Logic.{inl, inr}
use mathlib.Core.Bool.{true, false≢true}
use mathlib.Core.List.{List}
use lib.Dec.{eqb, ltb}
use lib.ListN.{length}
use borrow.Author.Tests.{ltb-false}
use Rattle.buffers.proofs.Tests.{either}
use Rattle.text.specs.Keys.{key_bytes, is_prefix, is_key}

pub prefix_short : (k : List ℕ) → is_prefix k ≡ true → length k ≤ 63
unfolding is_prefix
prefix_short k e =
    elim (either (ltb 63 (length k))) [
      | inl t ↦ absurd (false≢true (rw t at e))
      | inr t ↦ ltb-false 63 (length k) t
    ]

pub prefix_bytes : (k : List ℕ) → is_prefix k ≡ true → key_bytes k ≡ true
unfolding is_prefix
prefix_bytes k e =
    elim (either (ltb 63 (length k))) [
      | inl t ↦ absurd (false≢true (rw t at e))
      | inr t ↦ rw t at e
    ]

-- A key is a prefix.
pub key_prefix : (k : List ℕ) → is_key k ≡ true → is_prefix k ≡ true
unfolding is_key
key_prefix k e =
    elim (either (eqb (length k) 0)) [
      | inl t ↦ absurd (false≢true (rw t at e))
      | inr t ↦ rw t at e
    ]

pub key_short : (k : List ℕ) → is_key k ≡ true → length k ≤ 63
key_short k e = prefix_short k (key_prefix k e)
