-- Of every call over numbers: its number is 0 to 13, and a refusal leaves every buffer as it was. A call over bytes is the call over the numbers that they spell, its rows spelled again.
use Prim.Native.Nat.{ℕ, ◌/◌, ◌%◌, ◌≤◌}
use mathlib.Core.Path.{◌≡◌, refl, ◌∙◌}
use mathlib.Core.Logic.{inl, inr}
use mathlib.Core.List.{List}
use native.Mathlib.Omega.{arith}
use lib.Dec.{eqb}
use lib.ListN.{length}
use borrow.Author.Tests.{eqb-true, eq-eqb}
use Rattle.buffers.specs.Choices.{pick}
use Rattle.buffers.proofs.Tests.{either}
use Rattle.buffers.proofs.Choices.{pick_ways}
use Rattle.model.specs.Refusals.{last_refusal}
use Rattle.settings.specs.Bytes.{settings_length, settings_of}
use Rattle.bucket.specs.Whole.{lent}
use Rattle.outcome.specs.Calls.{Call}
use Rattle.outcome.specs.Outcome.{outcome}
use Rattle.knitpasture.specs.Bytes.{numbers_from, numbers_bytes, table_length, Bytes, as_bytes, spelled_by, ByteOutcome, byte_outcome, words_served, spelled_served, hub_served}
use Rattle.knitpasture.proofs.Left.{reads_as, RefusalKeeps, left_kept, left_range}

module _ (b : Bytes) (g : Call) where
  -- Demand 1, over numbers: the number is 0 to 13.
  pub words_range : (words_served b g).number ≤ last_refusal
  unfolding words_served
  words_range =
      pick_ways (λ (x : ByteOutcome). x.number ≤ last_refusal) (eqb (length b.settings) settings_length)
      (λ _. left_range _ _ b g) (λ _. omega arith)

  pub words_kept : RefusalKeeps b g.answer (words_served b g)
  unfolding words_served
  words_kept =
      pick_ways (RefusalKeeps b g.answer) (eqb (length b.settings) settings_length)
      (λ _. left_kept _ (outcome (lent (settings_of b.settings) b.rows b.keys) g) b g.answer) (λ _ _. refl)

-- what a call over numbers leaves, its rows as bytes: those after an accepted call, else those before it
abbrev pub rows_spelled : List ℕ → ByteOutcome → ByteOutcome
rows_spelled rows w = byte_outcome w.number (as_bytes w.bytes.settings (pick (eqb w.number 0) (numbers_bytes w.bytes.rows) rows) w.bytes.keys) w.answer

-- the bytes with n numbers that their rows spell
abbrev pub as_numbers : ℕ → Bytes → Bytes
as_numbers n b = as_bytes b.settings (numbers_from n b.rows) b.keys

pub spelled_words : (n : ℕ) (b : Bytes) (g : Call) → length b.settings ≡ settings_length → spelled_served n b g ≡ rows_spelled b.rows (words_served (as_numbers n b) g)
unfolding words_served
spelled_words n b g l =
    elim (either (eqb (outcome (spelled_by n b) g).number 0)) [
      | inl t ↦ simp (eq-eqb (length b.settings) settings_length l, t)
      | inr t ↦ simp (eq-eqb (length b.settings) settings_length l, t)
    ]

pub words_as_bytes : (b : Bytes) (g : Call) → length b.rows ≤ table_length → length b.rows % 8 ≡ 0 → hub_served b g ≡ rows_spelled b.rows (words_served (as_numbers (length b.rows / 8) b) g)
unfolding hub_served words_served
words_as_bytes b g m e =
    elim (either (eqb (length b.settings) settings_length)) [
      | inl t ↦
          let l = eqb-true (length b.settings) settings_length t in
          reads_as b g (record { settings_long = l; rows_most = m; rows_even = e }) ∙ spelled_words (length b.rows / 8) b g l
      | inr t ↦ rw t
    ]
