-- Two blocks compared by words up to the key's end.
use Rattle.std.proofs.Common.{◌≡◌, ℕ, ◌+◌, ◌%◌, ◌<◌, ◌≤◌, true, false, List, length, get_or, take, drop, sym, refl, ap, ◌∙◌, ap₂, inl, inr, arith, length-drop, take-append-drop, length-take, length-take-le, get_or-take, take-add, w8, w64, Fits}
use Rattle.buffers.specs.Lists.{same}
use Rattle.buffers.specs.Words.{number, spelled, AllBytes}
use Rattle.buffers.proofs.Words.{spelled_number, bytes_take, bytes_drop}
use Rattle.buffers.proofs.Tests.{either}
use Rattle.buffers.proofs.Lists.{same_path, same_refl}
use Rattle.buffers.proofs.Parts.{head_part}
use Rattle.blocks.specs.Blocks.{block_of, key_in, is_block}
use Rattle.blocks.proofs.Blocks.{block_path, block_long, block_short}

-- Equal words are spelled by equal bytes.
word_same : (a b : List ℕ) (i : ℕ) → AllBytes a → AllBytes b → i + 8 ≤ length a → i + 8 ≤ length b
    → number (take 8 (drop i a)) ≡ number (take 8 (drop i b)) → take 8 (drop i a) ≡ take 8 (drop i b)
word_same a b i ha hb la lb e =
    let m : length (take 8 (drop i a)) ≡ 8 = simp (length-take, length-drop) (omega arith) in
    let n : length (take 8 (drop i b)) ≡ 8 = simp (length-take, length-drop) (omega arith) in
    sym (spelled_number (take 8 (drop i a)) (bytes_take 8 (drop i a) (bytes_drop i a ha)))
    ∙ ap₂ spelled (m ∙ sym n) e
    ∙ spelled_number (take 8 (drop i b)) (bytes_take 8 (drop i b) (bytes_drop i b hb))

-- what holds at each turn: the first i bytes are the same
pub record Alike (a b : List ℕ) (n i : ℕ) : Type 0 where
  pub left : length a ≡ 64
  pub right : length b ≡ 64
  pub left_bytes : AllBytes a
  pub right_bytes : AllBytes b
  pub end : n ≡ get_or a 0 0
  pub short : n ≤ 63
  pub eights : i % 8 ≡ 0
  pub low : i ≤ 64
  pub head : take i a ≡ take i b

pub first_fits : (a : List ℕ) → is_block a ≡ true → Fits w64 (get_or a 0 0)
first_fits a ba = record { fits = omega (arith, block_short a ba) }

pub alike_start : (a b : List ℕ) → ((j : ℕ) → Fits w8 (get_or a j 0)) → ((j : ℕ) → Fits w8 (get_or b j 0)) → is_block a ≡ true → is_block b ≡ true → Alike a b (get_or a 0 0) 0
alike_start a b ha hb ba bb =
    record {
      left = block_long a ba;
      right = block_long b bb;
      left_bytes = λ j. omega (arith, ha j);
      right_bytes = λ j. omega (arith, hb j);
      end = refl;
      short = block_short a ba;
      eights = refl;
      low = omega arith;
      head = refl;
    }

module _ (a b : List ℕ) (n i : ℕ) (h : Alike a b n i) where
  module _ (g : i ≤ n) where
    pub word_left : i + 8 ≤ length a
    word_left = omega (arith, h.left, h.short, h.eights)

    pub word_right : i + 8 ≤ length b
    word_right = omega (arith, h.right, h.short, h.eights)

    pub word_again : number (take 8 (drop i a)) ≡ number (take 8 (drop i b)) → Alike a b n (i + 8)
    word_again e =
        record {
          left = h.left;
          right = h.right;
          left_bytes = h.left_bytes;
          right_bytes = h.right_bytes;
          end = h.end;
          short = h.short;
          eights = omega (arith, h.eights);
          low = omega (arith, h.short, h.eights);
          head = rw (take-add i 8 a, take-add i 8 b, h.head, word_same a b i h.left_bytes h.right_bytes word_left word_right e);
        }

  pub words_differ : (x y : ℕ) → is_block a ≡ true → is_block b ≡ true → x ≡ number (take 8 (drop i a)) → y ≡ number (take 8 (drop i b)) → (x ≡ y → ⊥)
      → false ≡ same (key_in a) (key_in b)
  words_differ x y ba bb ex ey d =
      elim (either (same (key_in a) (key_in b))) [
        | inl s ↦
            let q : a ≡ b = block_path a ba ∙ ap block_of (same_path (key_in a) (key_in b) s) ∙ sym (block_path b bb) in
            absurd (d (ex ∙ ap (λ (l : List ℕ). number (take 8 (drop i l))) q ∙ sym ey))
        | inr s ↦ sym s
      ]

  pub words_end : n < i → true ≡ same (key_in a) (key_in b)
  words_end g =
      let e : get_or a 0 0 ≡ get_or b 0 0 = sym (get_or-take i a 0 0 (omega arith)) ∙ ap (λ (l : List ℕ). get_or l 0 0) h.head ∙ get_or-take i b 0 0 (omega arith) in
      let la = length-take-le i a (omega (arith, h.left, h.low)) in
      let lb = length-take-le i b (omega (arith, h.right, h.low)) in
      let p : take n (drop 1 a) ≡ take n (drop 1 (take i a)) = cut a (omega arith) in
      let q : take n (drop 1 b) ≡ take n (drop 1 (take i b)) = cut b (omega arith) in
      let k : key_in a ≡ key_in b =
      ap (λ (m : ℕ). take m (drop 1 a)) (sym h.end) ∙ p ∙ ap (λ (l : List ℕ). take n (drop 1 l)) h.head ∙ sym q ∙ ap (λ (m : ℕ). take m (drop 1 b)) (h.end ∙ e) in
      sym (ap (λ (l : List ℕ). same l (key_in b)) k ∙ same_refl (key_in b))
    where
      cut : (l : List ℕ) → 1 + n ≤ length (take i l) → take n (drop 1 l) ≡ take n (drop 1 (take i l))
      cut l m = ap (λ (z : List ℕ). take n (drop 1 z)) (sym (take-append-drop i l)) ∙ head_part (take i l) (drop i l) 1 n m

pub ruleset word_cases = (first_fits, alike_start, word_left, word_right, words_differ, words_end)
