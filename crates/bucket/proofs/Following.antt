-- Two rows: the same bytes, the order of keys by their 64 bytes, and the rows one after the other.
use Prim.Native.Nat.{ℕ, zero, suc, ◌+◌, ◌*◌, ◌-◌, ◌≤◌, ◌<◌}
use mathlib.Core.Path.{◌≡◌, refl, sym, ap, ap₂, ◌∙◌}
use mathlib.Core.Logic.{inl, inr}
use mathlib.Core.Bool.{Bool, true, false, not, ◌&&◌, ◌||◌, and-true, and-false, and_assoc, or-false, false≢true}
use mathlib.Core.List.{List, [], ◌∷◌, ◌++◌}
use native.Mathlib.Omega.{arith}
use native.Mathlib.Numerals.{add-one}
use lib.Dec.{eqb, ltb}
use lib.ListN.{length, get_or, take, drop, replicate, drop_of_length-le}
use lib.Seq.{drop-cons}
use borrow.Author.Tests.{not-true, lt-ltb, le-ltb, ltb-false, ne_eqb}
use Rattle.buffers.specs.Lists.{all, same}
use Rattle.buffers.proofs.Tests.{either, and_i, and_l, and_r, clash}
use Rattle.buffers.proofs.Lists.{same_path, same_refl}
use Rattle.buffers.proofs.Parts.{part_cut, part_first}
use Rattle.text.specs.Keys.{is_key_byte, is_key, is_prefix}
use Rattle.blocks.specs.Blocks.{block_of, key_in, is_block}
use Rattle.blocks.proofs.Blocks.{block_is}
use Rattle.model.specs.Rows.{before}
use Rattle.model.proofs.Order.{before_irrefl}
use Rattle.std.specs.declared.cmp.Ordering.{Ordering}
use Rattle.std.specs.declared.cmp.Ordering.TheVariants.{Less, Equal, Greater}
use Rattle.bucket.specs.Steps.{all_below, is_key_block, block_at, keyed_at, ahead_of, ahead_at, sound_keys}
use Rattle.bucket.specs.Ordering.{is_block_order}
use Rattle.bucket.proofs.Steps.{below_at, below_more, pick_and}
use Rattle.bucket.proofs.Ordering.{apart_before}

-- ## The same bytes

module _ (w ok : Bool) (a b : List ℕ) (i : ℕ) (e : w ≡ ok && same (drop i a) (drop i b)) where
  pub same_more : i < length a → i < length b → w ≡ (ok && eqb (get_or a i 0) (get_or b i 0)) && same (drop (i + 1) a) (drop (i + 1) b)
  same_more h k =
      e ∙ rw (add-one, drop-cons a i 0 h, drop-cons b i 0 k, pick_and (eqb (get_or a i 0) (get_or b i 0)) (same (drop (suc i) a) (drop (suc i) b)))
      (sym (and_assoc ok (eqb (get_or a i 0) (get_or b i 0)) (same (drop (suc i) a) (drop (suc i) b))))

  pub same_end : 64 ≤ i → length a ≡ 64 → length b ≡ 64 → ok ≡ w
  same_end h p q =
      let j : length a ≤ i = omega arith in
      let k : length b ≤ i = omega arith in
      sym (e ∙ rw (drop_of_length-le a j, drop_of_length-le b k) (and-true ok))

pub ruleset same_cases = (same_more, same_end)

-- ## Keys by their 64 bytes

byte_some : (x : ℕ) → is_key_byte x ≡ true → 0 < x
unfolding is_key_byte
byte_some x e =
    elim (either (ltb x 33)) [
      | inl t ↦ absurd (false≢true (rw t at e))
      | inr t ↦ omega (arith, ltb-false x 33 t)
    ]

-- Keys with zeros behind them stand as the keys do.
padded : (k l : List ℕ) (m n : ℕ) → all is_key_byte k ≡ true → all is_key_byte l ≡ true → length k + m ≡ length l + n
    → before (k ++ replicate m 0) (l ++ replicate n 0) ≡ before k l
padded [] [] m n p q h = let e : m ≡ n = omega arith in rw e (before_irrefl (replicate n 0))
padded [] (y ∷ l) zero n p q h = absurd (omega arith)
padded [] (y ∷ l) (suc m) n p q h = rw (lt-ltb 0 y (byte_some y (and_l _ _ q)))
padded (x ∷ k) [] m zero p q h = absurd (omega arith)
padded (x ∷ k) [] m (suc n) p q h = rw (ne_eqb x 0 (λ e. omega (arith, byte_some x (and_l _ _ p))), le-ltb x 0 (omega arith))
padded (x ∷ k) (y ∷ l) m n p q h =
    ap (λ (t : Bool). ltb x y || (eqb x y && t)) (padded k l m n (and_r (is_key_byte x) _ p) (and_r (is_key_byte y) _ q) (omega arith))

-- What the bytes of a key are.
record Keyed (a : List ℕ) : Type 0 where
  pub fits : length (key_in a) ≤ 63
  pub bytes : all is_key_byte (key_in a) ≡ true
  pub is : a ≡ length (key_in a) ∷ key_in a ++ replicate (63 - length (key_in a)) 0

keyed : (a : List ℕ) → is_key_block a ≡ true → Keyed a
unfolding is_key_block is_key is_prefix is_block
keyed a e =
    let k = key_in a in
    let f = and_r (is_block a) _ e in
    elim (either (eqb (length k) 0)) [
      | inl t ↦ absurd (false≢true (rw t at f))
      | inr t ↦ elim (either (ltb 63 (length k))) [
        | inl u ↦ absurd (false≢true (simp (t, u) at f))
        | inr u ↦
            let h = ltb-false 63 (length k) u in
            record { fits = h; bytes = simp (t, u) at f; is = same_path a (block_of k) (and_l _ _ e) ∙ block_is k h }
      ]
    ]

module _ (a b : List ℕ) (f : is_key_block a ≡ true) where
  -- All bytes behind the first are in the order of the keys.
  keys_stand : is_key_block b ≡ true → before (drop 1 a) (drop 1 b) ≡ before (key_in a) (key_in b)
  keys_stand g =
      let u = keyed a f in
      let v = keyed b g in
      let h = u.fits in
      let k = v.fits in
      ap₂ (λ (s t : List ℕ). before (drop 1 s) (drop 1 t)) u.is v.is
      ∙ padded (key_in a) (key_in b) (63 - length (key_in a)) (63 - length (key_in b)) u.bytes v.bytes (omega arith)

  -- Other bytes are those of another key.
  other_key : is_key_block b ≡ true → same a b ≡ false → same (key_in a) (key_in b) ≡ false
  other_key g e =
      elim (either (same (key_in a) (key_in b))) [
        | inl t ↦
            let q : a ≡ b = (keyed a f).is ∙ ap (λ (k : List ℕ). length k ∷ k ++ replicate (63 - length k) 0) (same_path (key_in a) (key_in b) t) ∙ sym (keyed b g).is in
            absurd (clash (same b b) (same_refl b) (rw q at e))
        | inr t ↦ t
      ]

  -- Blocks that are not the same, by their order.
  stand_apart : (x y : ℕ) (q : Bool) → same a b ≡ false → before (drop 1 a) (drop 1 b) ≡ q → is_key_block b && q ≡ is_key_block b && ahead_of (key_in a) x (key_in b) y
  stand_apart x y q e d =
      elim (either (is_key_block b)) [
        | inl g ↦ rw (g, other_key g e, or-false (before (key_in a) (key_in b))) (sym d ∙ keys_stand g)
        | inr g ↦ rw g
      ]

  module _ (x y : ℕ) (o : Ordering) (w : is_block_order o a b ≡ true) where
    pub follows_before : (t : Bool) → o ≡ Less → t ≡ is_block b && is_key (key_in b) → t ≡ is_key_block b && ahead_of (key_in a) x (key_in b) y
    unfolding is_key_block
    follows_before t q e =
        let d : before (drop 1 a) (drop 1 b) ≡ true = rw q at w in
        e ∙ sym (and-true (is_block b && is_key (key_in b))) ∙ stand_apart x y true (apart_before a b d) d

    pub follows_same : o ≡ Equal → ltb y x ≡ is_key_block b && ahead_of (key_in a) x (key_in b) y
    follows_same q = rw (← same_path a b (rw q at w), f, before_irrefl (key_in a), same_refl (key_in a))

    pub follows_after : o ≡ Greater → false ≡ is_key_block b && ahead_of (key_in a) x (key_in b) y
    follows_after q =
        let d : (not (before (drop 1 a) (drop 1 b)) && not (same a b)) ≡ true = rw q at w in
        sym (and-false (is_key_block b))
        ∙ stand_apart x y false (not-true (same a b) (and_r (not (before (drop 1 a) (drop 1 b))) _ d)) (not-true (before (drop 1 a) (drop 1 b)) (and_l _ _ d))

pub ruleset follows_cases = (follows_before, follows_same, follows_after)

-- ## The rows one after the other

module _ (n b : List ℕ) (i : ℕ) where
  pub next_is : (r : Bool)
      → r ≡ is_key_block (take (64 * i + 64 + 64 - (64 * i + 64)) (drop (64 * i + 64) b))
      && ahead_of (key_in (take (64 * i + 64 - 64 * i) (drop (64 * i) b))) (get_or n (8 * i) 0)
      (key_in (take (64 * i + 64 + 64 - (64 * i + 64)) (drop (64 * i + 64) b))) (get_or n (8 * i + 8) 0)
      → r ≡ keyed_at b (i + 1) && ahead_at n b i
  unfolding ahead_at
  next_is r e =
      let p : 64 * (i + 1) ≡ 64 * i + 64 = omega arith in
      let q : 8 * (i + 1) ≡ 8 * i + 8 = omega arith in
      e ∙ rw (part_cut b (64 * i) 64, part_cut b (64 * i + 64) 64, p, q, part_first n (8 * i) 8 (omega arith), part_first n (8 * i + 8) 8 (omega arith))

  -- what holds once the rows up to position i are tested
  pub record Followed : Type 0 where
    pub keys : all_below (keyed_at b) (i + 1) ≡ true
    pub order : all_below (ahead_at n b) i ≡ true

  pub followed_key : Followed → keyed_at b i ≡ true
  followed_key w = below_at (keyed_at b) (i + 1) i w.keys (omega arith)

module _ (n b : List ℕ) (u : ℕ) where
  pub keys_none : u < 1 → true ≡ sound_keys n b u
  unfolding sound_keys
  keys_none h = let q : u ≡ 0 = omega arith in rw q

  sound_key : sound_keys n b u ≡ true → (i : ℕ) → i < u → keyed_at b i ≡ true
  unfolding sound_keys
  sound_key e i h = below_at (keyed_at b) u i (and_l _ _ e) h

  sound_order : sound_keys n b u ≡ true → (i : ℕ) → i + 1 < u → ahead_at n b i ≡ true
  unfolding sound_keys
  sound_order e i h = below_at (ahead_at n b) (u - 1) i (and_r (all_below (keyed_at b) u) _ e) (omega arith)

  pub first_no : (r : Bool) → r ≡ is_block (block_at b 0) && is_key (key_in (block_at b 0)) → r ≡ false → 1 ≤ u → false ≡ sound_keys n b u
  unfolding is_key_block
  first_no r e t h =
      elim (either (sound_keys n b u)) [
        | inl s ↦ absurd (clash r (e ∙ sound_key s 0 h) t)
        | inr s ↦ sym s
      ]

  pub next_no : (i : ℕ) (r : Bool) → r ≡ keyed_at b (i + 1) && ahead_at n b i → r ≡ false → i + 1 < u → false ≡ sound_keys n b u
  next_no i r e t h =
      elim (either (sound_keys n b u)) [
        | inl s ↦ absurd (clash r (e ∙ and_i (keyed_at b (i + 1)) _ (sound_key s (i + 1) h) (sound_order s i h)) t)
        | inr s ↦ sym s
      ]

  pub keys_end : (i : ℕ) → Followed n b i → i + 1 ≤ u → u ≤ i + 1 → true ≡ sound_keys n b u
  unfolding sound_keys
  keys_end i w h k =
      let p : u ≡ i + 1 = omega arith in
      let q : u - 1 ≡ i = omega arith in
      sym (and_i (all_below (keyed_at b) u) _ (rw p w.keys) (rw q w.order))

pub first_yes : (n b : List ℕ) (r : Bool) → r ≡ is_block (block_at b 0) && is_key (key_in (block_at b 0)) → r ≡ true → Followed n b 0
unfolding is_key_block
first_yes n b r e t = record { keys = sym e ∙ t; order = refl }

pub next_yes : (n b : List ℕ) (i : ℕ) (r : Bool) → Followed n b i → r ≡ keyed_at b (i + 1) && ahead_at n b i → r ≡ true → Followed n b (i + 1)
next_yes n b i r w e t =
    let s = sym e ∙ t in
    record {
      keys = below_more (keyed_at b) (i + 1) true w.keys (sym (and_l _ _ s)) refl;
      order = below_more (ahead_at n b) i true w.order (sym (and_r (keyed_at b (i + 1)) _ s)) refl;
    }

pub ruleset keys_cases = (keys_none, first_no, first_yes, next_no, next_yes, keys_end)
