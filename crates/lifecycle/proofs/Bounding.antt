-- The ranks between which the keys of a prefix lie: laying them, and what they tell of a key.
use Rattle.std.proofs.Common.{◌≡◌, ℕ, zero, suc, ◌+◌, ◌-◌, ◌/◌, ◌^◌, ◌<◌, ◌≤◌, Bool, true, false, eqb, leb, List, [], ◌∷◌, length, get_or, take, drop, sym, refl, ap, ◌∙◌, inl, inr, arith, length-drop, length-take-le, take_all, w8, w64, Fits, leb-false, leb-true}
use mathlib.Core.Bool.{false≢true}
use native.Mathlib.Nat.{pow-succ'}
use Rattle.buffers.specs.Lists.{begins}
use Rattle.buffers.proofs.Tests.{either}
use Rattle.buffers.specs.Words.{AllBytes}
use Rattle.buffers.proofs.Words.{bytes_take, bytes_drop}
use Rattle.text.proofs.Scans.{begins_short}
use Rattle.blocks.specs.Blocks.{key_in, is_block}
use Rattle.blocks.proofs.Blocks.{block_long, block_short}
use Rattle.search.specs.Keys.{rank}
use Rattle.search.proofs.Comparing.{all_bytes, rank_same}
use lib.ListN.{drop_of_length-le}
use lib.Seq.{drop-drop}
use Rattle.search.proofs.Ranking.{block_rank}
use Rattle.search.proofs.Prefixes.{prefix_room, begins_low, begins_high, within_begins, within_alike, begins_rest, begins_cut}
use Rattle.lifecycle.specs.Bounds.{Bounded}

-- ## What the bytes behind a prefix can spell

pub span_start : 18446744073709551615 + 1 ≡ 256 ^ (8 - 0)
span_start = refl

pub span_step : (s i : ℕ) → s + 1 ≡ 256 ^ (8 - i) → s / 256 + 1 ≡ 256 ^ (8 - (i + 1))
span_step s i e =
    elim (either (leb 8 i)) [
      | inl t ↦
          let h = leb-true 8 i t in
          let z : 8 - i ≡ 0 = omega arith in
          let y : 8 - (i + 1) ≡ 0 = omega arith in
          let f : s + 1 ≡ 256 ^ 0 = rw z at e in
          rw y (omega (arith, f))
      | inr t ↦
          let h = leb-false 8 i t in
          let z : 8 - i ≡ suc (8 - (i + 1)) = omega arith in
          let f : s + 1 ≡ 256 ^ suc (8 - (i + 1)) = rw z at e in
          omega (arith, f, pow-succ' 256 (8 - (i + 1)))
    ]

pub ruleset span_cases = (span_start, span_step)

-- ## The bounds of a prefix

module _ (b : List ℕ) (e : is_block b ≡ true) where
  pub block_eight : 1 + 8 ≤ length b
  block_eight = omega (arith, block_long b e)

  pub block_some : 0 < length b
  block_some = omega (arith, block_long b e)

  pub length_fits : Fits w64 (get_or b 0 0)
  length_fits = record { fits = omega (arith, block_short b e) }

  key_length : length (key_in b) ≡ get_or b 0 0
  key_length = length-take-le (get_or b 0 0) (drop 1 b) (rw (length-drop 1 b) (omega (arith, block_long b e, block_short b e)))

  module _ (low span : ℕ) (f : low ≡ rank 8 (drop 1 b)) (g : span + 1 ≡ 256 ^ (8 - get_or b 0 0)) where
    own_rank : low ≡ rank 8 (key_in b)
    own_rank = f ∙ block_rank b e

    -- No prefix has an upper bound beyond the numbers.
    pub bound_fits : ((j : ℕ) → Fits w8 (get_or b j 0)) → Fits w64 (low + span)
    bound_fits h =
        let m : 256 ^ 8 ≡ 18446744073709551616 = refl in
        let r = rw key_length at (prefix_room 8 (key_in b) (bytes_take (get_or b 0 0) (drop 1 b) (bytes_drop 1 b (all_bytes b h)))) in
        record { fits = omega (arith, own_rank, g, r, m) }

    pub bounded : Bounded (key_in b) low (low + span)
    bounded = record { low_is = own_rank; high_is = rw key_length (omega (arith, own_rank, g)) }

pub ruleset bound_cases = (block_eight, block_some, length_fits, bound_fits, bounded)

-- ## A key by the bounds

own_bytes : (p q : List ℕ) → q ≡ key_in p → ((j : ℕ) → Fits w8 (get_or q j 0)) → AllBytes (key_in p)
own_bytes p q e qs = rw (← e) (all_bytes q qs)

-- What begins it, begins it from a place on.
begins_drop : (n : ℕ) (p k : List ℕ) → begins p k ≡ true → begins (drop n p) (drop n k) ≡ true
begins_drop zero p k e = e
begins_drop (suc n) [] k e = refl
begins_drop (suc n) (x ∷ p) [] e = absurd (false≢true e)
begins_drop (suc n) (x ∷ p) (y ∷ k) e =
    elim (either (eqb x y)) [
      | inl t ↦ begins_drop n p k (rw t at e)
      | inr t ↦ absurd (false≢true (rw t at e))
    ]

module _ (p k : List ℕ) (lo hi x : ℕ) (bound : Bounded (key_in p) lo hi) (ex : x ≡ rank 8 k) (ks : (j : ℕ) → Fits w8 (get_or k j 0)) where
  pub begins_below : x < lo → false ≡ begins (key_in p) k
  begins_below l =
      elim (either (begins (key_in p) k)) [
        | inl t ↦ absurd (omega (arith, begins_low 8 (key_in p) k t, bound.low_is))
        | inr t ↦ sym t
      ]

  pub begins_above : hi < x → false ≡ begins (key_in p) k
  begins_above l =
      elim (either (begins (key_in p) k)) [
        | inl t ↦ absurd (omega (arith, begins_high 8 (key_in p) k (all_bytes k ks) t, bound.high_is))
        | inr t ↦ sym t
      ]

  pub begins_within : (q : List ℕ) → q ≡ key_in p → ((j : ℕ) → Fits w8 (get_or q j 0)) → length q ≤ 8 → lo ≤ x → x ≤ hi → leb (length q) (length k) ≡ begins (key_in p) k
  begins_within q e ps short low high =
      elim (either (leb (length q) (length k))) [
        | inl t ↦
            let l = rw e at (leb-true (length q) (length k) t) in
            t ∙ sym (within_begins 8 (key_in p) k (own_bytes p q e ps) (all_bytes k ks) (rw e at short) l (omega (arith, bound.low_is)) (omega (arith, bound.high_is)))
        | inr t ↦ t ∙ begins_short (key_in p) k (rw e at (leb-false (length q) (length k) t))
      ]

  pub begins_longer : (q : List ℕ) → q ≡ key_in p → length k < length q → false ≡ begins (key_in p) k
  begins_longer q e l = begins_short (key_in p) k (rw e at l)

  -- The last eight bytes of a prefix stand in each key that it begins.
  pub begins_last : (q : List ℕ) (u v : ℕ) → q ≡ key_in p → u ≡ rank 8 (drop (length q - 8) k) → v ≡ rank 8 (drop (length q - 8) q) → (u ≡ v → ⊥) → 8 < length q → false ≡ begins (key_in p) k
  begins_last q u v e fu fv other long =
      elim (either (begins (key_in p) k)) [
        | inl t ↦
            let d = begins_drop (length q - 8) q k (ap (λ (y : List ℕ). begins y k) e ∙ t) in
            let n : 8 - length (drop (length q - 8) q) ≡ 0 = omega (arith, length-drop (length q - 8) q) in
            let low = begins_low 8 (drop (length q - 8) q) (drop (length q - 8) k) d in
            let high : rank 8 (drop (length q - 8) k) < rank 8 (drop (length q - 8) q) + 1 = rw n at (begins_high 8 (drop (length q - 8) q) (drop (length q - 8) k) (bytes_drop (length q - 8) k (all_bytes k ks)) d) in
            absurd (other (omega (arith, fu, fv, low, high)))
        | inr t ↦ sym t
      ]

  -- A prefix of up to sixteen bytes is its first eight and its last eight.
  pub begins_near : (q : List ℕ) (u v : ℕ) → q ≡ key_in p → u ≡ rank 8 (drop (length q - 8) k) → v ≡ rank 8 (drop (length q - 8) q) → u ≡ v → ((j : ℕ) → Fits w8 (get_or q j 0)) → 8 < length q → length q ≤ 16 → length q ≤ length k → lo ≤ x → x ≤ hi
      → true ≡ begins (key_in p) k
  begins_near q u v e fu fv same ps long most there low high =
      let n = length q - 8 in
      let q_bytes = all_bytes q ps in
      let k_bytes = all_bytes k ks in
      let first : take 8 q ≡ take 8 k = rw (sym e) at (within_alike 8 (key_in p) k (own_bytes p q e ps) k_bytes (rw e at (let z : 8 ≤ length q = omega arith in z)) (omega arith) (omega (arith, bound.low_is)) (omega (arith, bound.high_is))) in
      let last_long : length (drop n q) ≡ 8 = rw (length-drop n q) (omega arith) in
      let key_long : 8 ≤ length (drop n k) = rw (length-drop n k) (omega arith) in
      let last : take 8 (drop n q) ≡ take 8 (drop n k) = rank_same 8 (drop n q) (drop n k) (bytes_drop n q q_bytes) (bytes_drop n k k_bytes) (omega arith) key_long (sym fv ∙ sym same ∙ fu) in
      let none : drop 8 (drop n q) ≡ [] = drop_of_length-le (drop n q) (let z : length (drop n q) ≤ 8 = omega arith in z) in
      let ends : begins (drop n q) (drop n k) ≡ true = begins_rest 8 (drop n q) (drop n k) (omega arith) key_long last ∙ rw none in
      let behind : begins (drop (8 - n) (drop n q)) (drop (8 - n) (drop n k)) ≡ true = begins_drop (8 - n) (drop n q) (drop n k) ends in
      let m : n + (8 - n) ≡ 8 = omega arith in
      let whole : begins (drop 8 q) (drop 8 k) ≡ true = rw (drop-drop (8 - n) n q, drop-drop (8 - n) n k, m) at behind in
      sym (ap (λ (y : List ℕ). begins y k) (sym e) ∙ begins_rest 8 q k (omega arith) (omega arith) first ∙ whole)

  pub begins_behind : (q : List ℕ) (r : Bool) → q ≡ key_in p → r ≡ begins (take (length q - 8) (drop 8 q)) (take (length q - 8) (drop 8 k)) → ((j : ℕ) → Fits w8 (get_or q j 0)) → 8 < length q → length q ≤ length k → lo ≤ x → x ≤ hi
      → r ≡ begins (key_in p) k
  begins_behind q r e f ps long there low high =
      let l : 8 ≤ length (key_in p) = rw e at (let z : 8 ≤ length q = omega arith in z) in
      let m : 8 ≤ length k = omega arith in
      let first = within_alike 8 (key_in p) k (own_bytes p q e ps) (all_bytes k ks) l m (omega (arith, bound.low_is)) (omega (arith, bound.high_is)) in
      let o : length (drop 8 q) ≡ length q - 8 = length-drop 8 q in
      let whole : begins (take (length q - 8) (drop 8 q)) (take (length q - 8) (drop 8 k)) ≡ begins (drop 8 q) (drop 8 k) = rw (take_all (length q - 8) (drop 8 q) (omega arith)) (begins_cut (drop 8 q) (drop 8 k) (length q - 8) (omega arith)) in
      let rest : begins (drop 8 q) (drop 8 k) ≡ begins (key_in p) k = ap (λ (y : List ℕ). begins (drop 8 y) (drop 8 k)) e ∙ sym (begins_rest 8 (key_in p) k l m first) in
      f ∙ whole ∙ rest

module _ (b : List ℕ) (e : is_block b ≡ true) where
  pub block_room : 64 ≤ length b
  block_room = omega (arith, block_long b e)

  pub block_length : get_or b 0 0 ≤ 63
  block_length = block_short b e

pub ruleset begins_cases = (block_room, block_length, begins_below, begins_above, begins_within, begins_longer, begins_last, begins_near, begins_behind)
