-- Laws of the tests in `specs/Steps.antt`, for the ways through the code.
use Prim.Native.Nat.{ℕ, zero, suc, ◌+◌, ◌≤◌, ◌<◌}
use mathlib.Core.Path.{◌≡◌, refl, sym, ap, ◌∙◌}
use mathlib.Core.Logic.{inl, inr}
use mathlib.Core.Bool.{Bool, true, false, ◌&&◌, and-true, and-false, and_assoc}
use mathlib.Core.List.{List}
use native.Mathlib.Omega.{arith}
use native.Mathlib.Numerals.{add-one}
use lib.Dec.{eqb, leb, ltb}
use lib.Bits.{bit_or, or_add_and, and_le_r, or_zero_l}
use lib.ListN.{length, get_or, drop, drop_of_length-le}
use lib.Seq.{drop-cons}
use borrow.Author.Tests.{eqb-true, eqb-false, ne_eqb}
use Rattle.buffers.specs.Choices.{pick}
use Rattle.buffers.proofs.Tests.{either, and_i, and_l, and_r, clash}
use Rattle.text.specs.Keys.{is_key}
use Rattle.blocks.specs.Blocks.{key_in}
use Rattle.model.specs.Rows.{Row, is_data, is_marker, sound_data, sound_marker, sound_row}
use Rattle.table.specs.Layout.{row_at}
use Rattle.bucket.specs.Steps.{all_below, zeros, made_here, sound_numbers, numbers_at, block_at}

-- ## A test of every number below a bound

module _ (p : ℕ → Bool) where
  pub below_at : (u i : ℕ) → all_below p u ≡ true → i < u → p i ≡ true
  below_at zero i e h = absurd (omega arith)
  below_at (suc k) i e h =
      elim (either (eqb i k)) [
        | inl q ↦ ap p (eqb-true i k q) ∙ and_r (all_below p k) _ e
        | inr q ↦ below_at k i (and_l _ _ e) (omega (arith, eqb-false i k q))
      ]

  pub below_all : (u : ℕ) → ((i : ℕ) → i < u → p i ≡ true) → all_below p u ≡ true
  below_all zero f = refl
  below_all (suc k) f = and_i (all_below p k) _ (below_all k (λ i h. f i (omega arith))) (f k (omega arith))

  pub below_more : (i : ℕ) (r : Bool) → all_below p i ≡ true → r ≡ p i → r ≡ true → all_below p (i + 1) ≡ true
  below_more i r e q t = rw (add-one, e) (sym q ∙ t)

  pub below_no : (u i : ℕ) (r : Bool) → r ≡ p i → r ≡ false → i < u → false ≡ all_below p u
  below_no u i r q t h =
      elim (either (all_below p u)) [
        | inl e ↦ absurd (clash (p i) (below_at u i e h) (sym q ∙ t))
        | inr e ↦ sym e
      ]

  pub below_end : (u i : ℕ) → all_below p i ≡ true → i ≤ u → u ≤ i → true ≡ all_below p u
  below_end u i e h k = let q : i ≡ u = omega arith in rw q at (sym e)

pub ruleset below_cases = (below_more, below_no, below_end)

-- ## Zeros

-- Bits joined are zero where both are.
bits_zero : (a b : ℕ) → eqb (bit_or a b) 0 ≡ eqb a 0 && eqb b 0
bits_zero a b =
    elim (either (eqb a 0)) [
      | inl t ↦ rw (eqb-true a 0 t, or_zero_l b)
      | inr t ↦ rw t (ne_eqb (bit_or a b) 0 (λ e. eqb-false a 0 t (omega (arith, or_add_and a b, and_le_r a b))))
    ]

module _ (w : Bool) (l : List ℕ) (bits i : ℕ) (e : w ≡ eqb bits 0 && zeros (drop i l)) where
  pub zeros_more : i < length l → w ≡ eqb (bit_or bits (get_or l i 0)) 0 && zeros (drop (i + 1) l)
  zeros_more h =
      e ∙ rw (add-one, drop-cons l i 0, bits_zero bits (get_or l i 0)) (sym (and_assoc (eqb bits 0) (eqb (get_or l i 0) 0) (zeros (drop (suc i) l))))

  pub zeros_end : length l ≤ i → eqb bits 0 ≡ w
  zeros_end h = sym (e ∙ rw (drop_of_length-le l h) (and-true (eqb bits 0)))

pub ruleset zeros_cases = (zeros_more, zeros_end)

-- ## A row

pub with_same : (h r t : Bool) → r ≡ t → h && r ≡ h && t
with_same h r t e = rw e

-- ## A sound row

pub pick_and : (a b : Bool) → pick a b false ≡ a && b
pick_and true b = refl
pick_and false b = refl

by_kind : (h t d m q : Bool) → pick t (h && d) (pick m (h && q) false) ≡ h && pick t d (m && q)
by_kind h true d m q = refl
by_kind h false d true q = refl
by_kind h false d false q = sym (and-false h)

key_first : (k a b c p : Bool) → k && ((a && (b && c)) && p) ≡ a && (b && (c && (k && p)))
key_first k false b c p = and-false k
key_first k true false c p = and-false k
key_first k true true false p = and-false k
key_first k true true true p = refl

pub sound_row_lem : (next time : ℕ) (x : Row) → sound_row next time x ≡ is_key x.key && sound_numbers next time x
unfolding sound_row sound_numbers
sound_row_lem next time x =
    sym (ap (λ (t : Bool). is_key x.key && t) (by_kind (made_here next time x) (is_data x) (sound_data x) (is_marker x) (sound_marker x))
    ∙ key_first (is_key x.key) (leb 1 x.number) (ltb x.number next) (leb x.created time) (pick (is_data x) (sound_data x) (is_marker x && sound_marker x)))

-- The row at a position is sound where its key and its numbers are.
pub row_parts : (next time : ℕ) (n b : List ℕ) (i : ℕ) → sound_row next time (row_at n b i) ≡ is_key (key_in (block_at b i)) && numbers_at next time n i
unfolding sound_numbers
row_parts next time n b i = sound_row_lem next time (row_at n b i)
