-- What is left by a call over bytes: by lengths that fit or do not, and by a call that is accepted or refused.
use Prim.Native.Nat.{ℕ, ◌%◌, ◌≤◌}
use mathlib.Core.Path.{◌≡◌, refl, sym}
use mathlib.Core.List.{List}
use lib.Dec.{eqb, ltb}
use lib.ListN.{length}
use borrow.Author.Tests.{eqb-true, eqb-false, ltb-false, eq-eqb, le-ltb}
use Rattle.buffers.proofs.Choices.{pick_ways}
use Rattle.model.specs.Refusals.{last_refusal}
use Rattle.settings.specs.Bytes.{settings_length, settings_bytes}
use Rattle.bucket.specs.Whole.{Lent}
use Rattle.outcome.specs.Calls.{Call}
use Rattle.outcome.specs.Outcome.{Outcome, outcome}
use Rattle.outcome.specs.Comparisons.{comparisons_of}
use Rattle.outcome.proofs.Demands.{refusal_range, outcome_number}
use Rattle.knitpasture.specs.Bytes.{table_length, Bytes, as_bytes, lent_of, spelling, ByteOutcome, byte_outcome, outcome_left, outcome_bytes, hub_served, hub_comparisons}

-- ## The lengths

pub record Fitting (b : Bytes) : Type 0 where
  pub settings_long : length b.settings ≡ settings_length
  pub rows_most : length b.rows ≤ table_length
  pub rows_even : length b.rows % 8 ≡ 0

pub spelling_ways : {A : Type 0} {served wrong : A} (b : Bytes) (P : A → Type 0) → (Fitting b → P served) → P wrong → P (spelling b served wrong)
spelling_ways b P f w =
    pick_ways P (eqb (length b.settings) settings_length)
    (λ s. pick_ways P (ltb table_length (length b.rows)) (λ _. w)
    (λ m. pick_ways P (eqb (length b.rows % 8) 0)
    (λ e. f (record { settings_long = eqb-true _ _ s; rows_most = ltb-false _ _ m; rows_even = eqb-true _ _ e }))
    (λ _. w)))
    (λ _. w)

-- Fitting lengths are not wrong.
pub spelling_fits : {A : Type 0} (served wrong : A) (b : Bytes) → Fitting b → spelling b served wrong ≡ served
spelling_fits served wrong b f =
    simp (eq-eqb (length b.settings) settings_length f.settings_long, le-ltb table_length (length b.rows) f.rows_most, eq-eqb (length b.rows % 8) 0 f.rows_even)

-- Bytes of fitting lengths are served as what they spell.
pub reads_as : (b : Bytes) (g : Call) → Fitting b → hub_served b g ≡ outcome_bytes (outcome (lent_of b) g) b g.answer
unfolding hub_served
reads_as b g f = spelling_fits _ _ b f

-- And so are their comparisons.
pub counts_as : (b : Bytes) (g : Call) → Fitting b → hub_comparisons b g ≡ comparisons_of (lent_of b) g
unfolding hub_comparisons
counts_as b g f = spelling_fits _ _ b f

-- ## The number

module _ (rows : List ℕ) (o : Outcome) (b : Bytes) (answer : List ℕ) where
  pub left_ways : (P : ByteOutcome → Type 0) → (o.number ≡ 0 → P (byte_outcome 0 (as_bytes (settings_bytes o.bucket.settings) rows o.bucket.keys) o.answer))
      → ((o.number ≡ 0 → ⊥) → P (byte_outcome o.number b answer)) → P (outcome_left rows o b answer)
  left_ways P f g = pick_ways P (eqb o.number 0) (λ t. f (eqb-true o.number 0 t)) (λ t. g (eqb-false o.number 0 t))

  pub left_number : (outcome_left rows o b answer).number ≡ o.number
  left_number = left_ways (λ x. x.number ≡ o.number) (λ z. sym z) (λ _. refl)

-- A number other than 0 leaves every byte as it was.
abbrev pub RefusalKeeps : Bytes → List ℕ → ByteOutcome → Type 0
RefusalKeeps b answer x = (x.number ≡ 0 → ⊥) → x ≡ byte_outcome x.number b answer

pub left_kept : (rows : List ℕ) (o : Outcome) (b : Bytes) (answer : List ℕ) → RefusalKeeps b answer (outcome_left rows o b answer)
left_kept rows o b answer = left_ways rows o b answer (RefusalKeeps b answer) (λ _ n. absurd (n refl)) (λ _ _. refl)

pub left_range : (rows : List ℕ) (l : Lent) (b : Bytes) (g : Call) → (outcome_left rows (outcome l g) b g.answer).number ≤ last_refusal
left_range rows l b g = rw (left_number rows (outcome l g) b g.answer, outcome_number l g) (refusal_range l g)
