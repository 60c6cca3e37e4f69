-- The 64 bytes one by one: the loop's test of each byte, taken together, is that they are the block of a prefix.
use Prim.Native.Nat.{ℕ, zero, suc, ◌+◌, ◌-◌, ◌≤◌, ◌<◌}
use mathlib.Core.Path.{◌≡◌, refl, sym, ap, ◌∙◌}
use mathlib.Core.Logic.{inl, inr}
use mathlib.Core.Bool.{Bool, true, false, ◌&&◌, ◌||◌, and-true, and-false, and_assoc, and_comm, beq}
use mathlib.Core.List.{List, [], ◌∷◌, ◌++◌}
use native.Mathlib.Omega.{arith}
use lib.Dec.{leb, ltb, eqb}
use lib.ListN.{length, get_or, take, drop, replicate, length-take, drop_of_length-le}
use lib.Seq.{take_all, length-take-le}
use borrow.Author.Tests.{eq-eqb, eqb-true, ne_eqb, le-leb, lt-leb, le-ltb, lt-ltb, ltb-true, ltb-false}
use Rattle.buffers.specs.Choices.{pick}
use Rattle.buffers.specs.Lists.{all, same}
use Rattle.buffers.proofs.Tests.{either}
use Rattle.text.specs.Keys.{is_key_byte, is_prefix, is_key}
use Rattle.blocks.specs.Blocks.{block_of, key_in, is_block}
use Rattle.blocks.specs.Places.{place_fits, places_fit, is_zero}

-- ## The bytes of a key, then zeros

key_byte : (x : ℕ) → leb 33 x && leb x 126 ≡ is_key_byte x
unfolding is_key_byte
key_byte x =
    elim (either (ltb x 33)) [
      | inl t ↦ let h = ltb-true x 33 t in simp (t, lt-leb 33 x h)
      | inr t ↦ let h = ltb-false x 33 t in simp (t, le-leb 33 x h)
    ]

zero_here : (z k : Bool) → beq true z && (z || k) ≡ z
zero_here true k = refl
zero_here false k = refl

past : (n j : ℕ) (l : List ℕ) → n < j → places_fit n j l ≡ all is_zero l
past n j [] h = refl
past n j (x ∷ l) h =
    let z : j ≡ 0 → ⊥ = λ e. omega arith in
    let k : n < j + 1 = omega arith in
    simp (ne_eqb j 0 z, lt-ltb n j h, zero_here (eqb x 0) (leb 33 x && leb x 126)) (ap (λ (r : Bool). is_zero x && r) (past n (j + 1) l k))

byte_here : (x : ℕ) → beq false (eqb x 0) && (eqb x 0 || (leb 33 x && leb x 126)) ≡ is_key_byte x
unfolding is_key_byte
byte_here x =
    elim (either (eqb x 0)) [
      | inl t ↦ rw (eqb-true x 0 t)
      | inr t ↦ rw t (key_byte x)
    ]

within : (n j x : ℕ) → 1 ≤ j → j ≤ n → place_fits n j x ≡ is_key_byte x
within n j x h k =
    let z : j ≡ 0 → ⊥ = λ e. omega arith in
    rw (ne_eqb j 0 z, le-ltb n j k) (byte_here x)

key_then_zeros : (n j m : ℕ) (l : List ℕ) → 1 ≤ j → j + m ≡ n + 1 → places_fit n j l ≡ all is_key_byte (take m l) && all is_zero (drop m l)
key_then_zeros n j zero l h e = past n j l (omega arith)
key_then_zeros n j (suc m) [] h e = refl
key_then_zeros n j (suc m) (x ∷ l) h e =
    let q : j + 1 + m ≡ n + 1 = omega arith in
    ap (λ (t : Bool). t && places_fit n (j + 1) l) (within n j x h (omega arith))
    ∙ ap (λ (t : Bool). is_key_byte x && t) (key_then_zeros n (j + 1) m l (omega arith) q)
    ∙ sym (and_assoc (is_key_byte x) (all is_key_byte (take m l)) (all is_zero (drop m l)))

-- ## A prefix and zeros are a block

same_zeros : (m n : ℕ) (l : List ℕ) → length l ≡ m + n → same l (take m l ++ replicate n 0) ≡ all is_zero (drop m l)
same_zeros zero zero [] h = refl
same_zeros zero zero (x ∷ l) h = absurd (omega arith)
same_zeros zero (suc n) [] h = absurd (omega arith)
same_zeros zero (suc n) (x ∷ l) h = go (eqb x 0) (same_zeros zero n l (omega arith))
  where
    go : (b : Bool) → same l (replicate n 0) ≡ all is_zero l → pick b (same l (replicate n 0)) false ≡ b && all is_zero l
    go true e = e
    go false e = refl
same_zeros (suc m) n [] h = absurd (omega arith)
same_zeros (suc m) n (x ∷ l) h = rw (eq-eqb x x refl) (same_zeros m n l (omega arith))

fits_block : (x : ℕ) (l : List ℕ) → length l ≡ 63 → x ≤ 63 → is_block (x ∷ l) ≡ all is_zero (drop x l)
unfolding is_block block_of
fits_block x l h k =
    let t : length (take x l) ≡ x = length-take-le x l (omega arith) in
    let f : take 63 (take x l) ≡ take x l = take_all 63 (take x l) (omega arith) in
    rw (f, t, eq-eqb x x refl) (same_zeros x (63 - x) l (omega arith))

long_block : (x : ℕ) (l : List ℕ) → 63 < x → is_block (x ∷ l) ≡ false
unfolding is_block block_of
long_block x l h =
    let t = length-take 63 (take x l) in
    rw (ne_eqb x (length (take 63 (take x l))) (λ e. omega arith))

prefix_here : (k : List ℕ) → length k ≤ 63 → is_prefix k ≡ all is_key_byte k
unfolding is_prefix
prefix_here k h = rw (le-ltb 63 (length k) h)

all_places : (x : ℕ) (l : List ℕ) → length l ≡ 63 → x ≤ 63 → places_fit x 0 (x ∷ l) ≡ is_block (x ∷ l) && is_prefix (take x l)
all_places x l h k =
    let g : length (take x l) ≤ 63 = rw (length-take) (omega arith) in
    rw (fits_block x l h k, prefix_here (take x l) g)
    (key_then_zeros x 1 x l (omega arith) (omega arith) ∙ and_comm (all is_key_byte (take x l)) (all is_zero (drop x l)))

-- ## The ways of the whole test

module _ (b : List ℕ) (d : length b ≡ 64) where
  every_place : (c : List ℕ) → b ≡ c → get_or b 0 0 ≤ 63 → places_fit (get_or b 0 0) 0 b ≡ is_block b && is_prefix (key_in b)
  every_place [] e m = let q : length b ≡ 0 = ap length e in absurd (omega arith)
  every_place (x ∷ l) e m = let q : length b ≡ suc (length l) = ap length e in rw e (all_places x l (omega arith) (rw e at m))

  pub places_short : (r q : Bool) → get_or b 0 0 < 32 → places_fit (get_or b 0 0) 0 b ≡ r && places_fit (get_or b 0 0) 32 (drop 32 b) → q ≡ all is_zero (drop 32 b)
      → r && q ≡ is_block b && is_prefix (key_in b)
  places_short r q h e z = ap (λ (t : Bool). r && t) (z ∙ sym (past (get_or b 0 0) 32 (drop 32 b) h)) ∙ sym e ∙ every_place b refl (omega arith)

  pub places_whole : (r : Bool) → get_or b 0 0 < 64 → places_fit (get_or b 0 0) 0 b ≡ r && places_fit (get_or b 0 0) 64 (drop 64 b) → r ≡ is_block b && is_prefix (key_in b)
  places_whole r h e = sym (e ∙ rw (drop_of_length-le b {i = 64} (omega arith)) (and-true r)) ∙ every_place b refl (omega arith)

not_long : (b : List ℕ) → length b ≡ 64 → 64 ≤ get_or b 0 0 → false ≡ is_block b && is_prefix (key_in b)
not_long [] d h = absurd (omega arith)
not_long (x ∷ l) d h = rw (long_block x l h)

pub places_long : (b : List ℕ) → length b ≡ 64 → 64 ≤ get_or b 0 0 → ltb (get_or b 0 0) 64 ≡ is_block b && is_prefix (key_in b)
places_long b d h = le-ltb (get_or b 0 0) 64 h ∙ not_long b d h

pub ruleset places_cases = (places_short, places_whole, places_long)

-- ## A key is a prefix that is not empty

pub key_block : (b : List ℕ) (r : Bool) → length b ≡ 64 → r ≡ is_block b && is_prefix (key_in b) → leb 1 (get_or b 0 0) && r ≡ is_block b && is_key (key_in b)
unfolding is_key
key_block [] r h e = absurd (omega arith)
key_block (x ∷ []) r h e = absurd (omega arith)
key_block (zero ∷ y ∷ l) r h e = sym (and-false (is_block (zero ∷ y ∷ l)))
key_block (suc x ∷ y ∷ l) r h e = rw (le-leb 1 (suc x) (omega arith), ne_eqb (suc (length (take x l))) 0 (λ q. omega arith)) e
