-- The buffers as lists of all their rows, the free ones too: what is written at a place replaces rows of the list.
use Prim.Native.Nat.{ℕ, zero, suc, ◌+◌, ◌-◌, ◌*◌, ◌≤◌, ◌<◌}
use mathlib.Core.Path.{◌≡◌, refl, sym, ap, ◌∙◌}
use mathlib.Core.Bool.{true}
use mathlib.Core.List.{List, [], ◌∷◌, ◌++◌, append-nil}
use native.Mathlib.Omega.{arith}
use native.Mathlib.Nat.{mul-suc, mul-zero, mul-add}
use lib.ListN.{length, get_or, take, drop, set, replicate, length-append, length-replicate, take-append-drop, replicate-append-replicate}
use lib.Seq.{drop-cons, length-take-le, take_at, drop_at, set_split, append_snoc}
use native.Mathlib.Numerals.{add-one}
use Rattle.buffers.specs.Writes.{placed}
use Rattle.blocks.specs.Blocks.{block_of}
use Rattle.model.specs.Rows.{Row}
use Rattle.table.specs.Layout.{Holds, numbers_of_row, numbers_of, keys_of, keys_fit}
use Rattle.table.proofs.Laying.{Laying, flat, flat_append, flat_length}
use Rattle.table.proofs.Held.{block_of_row, numbers_laying, keys_laying}
use Rattle.apply.specs.Passes.{Put}

-- ## The bytes or numbers of rows, one row after another

abbrev pub free : Row
free = record { number = 0; kind = 0; created = 0; body = 0; size = 0; mode = 0; until = 0; hold = 0; key = [] }

abbrev pub padded : ℕ → List Row → List Row
padded c xs = xs ++ replicate (c - length xs) free

module _ {f : Row → List ℕ} {k : ℕ} {g : ℕ → List Row → List ℕ} (y : Laying f k g) where
  module _ (T : List Row) (i : ℕ) (h : i ≤ length T) where
    flat_split : flat f T ≡ flat f (take i T) ++ flat f (drop i T)
    flat_split = ap (flat f) (sym (take-append-drop i T)) ∙ flat_append f (take i T) (drop i T)

    first_length : length (flat f (take i T)) ≡ k * i
    first_length = flat_length y (take i T) ∙ ap (λ (n : ℕ). k * n) (length-take-le i T h)

    flat_take : take (k * i) (flat f T) ≡ flat f (take i T)
    flat_take = ap (take (k * i)) flat_split ∙ take_at (flat f (take i T)) (flat f (drop i T)) (k * i) first_length

    flat_drop : drop (k * i) (flat f T) ≡ flat f (drop i T)
    flat_drop = ap (drop (k * i)) flat_split ∙ drop_at (flat f (take i T)) (flat f (drop i T)) (k * i) first_length

  -- the part at a place is its row's
  flat_at : (T : List Row) (i : ℕ) → i < length T → take k (drop (k * i) (flat f T)) ≡ f (get_or T i free)
  flat_at T i h =
      ap (take k) (flat_drop T i (omega arith) ∙ ap (flat f) (drop-cons T i free h))
      ∙ take_at (f (get_or T i free)) (flat f (drop (suc i) T)) k (y.wide (get_or T i free))

  -- rows written at a place
  flat_put : (T : List Row) (i : ℕ) (xs : List Row) → i + length xs ≤ length T
      → placed (flat f T) (k * i) (flat f xs) ≡ flat f (take i T ++ xs ++ drop (i + length xs) T)
  flat_put T i xs h =
      let e : k * i + length (flat f xs) ≡ k * (i + length xs) = ap (λ (n : ℕ). k * i + n) (flat_length y xs) ∙ sym (mul-add k i (length xs)) in
      rw (e, flat_take T i (omega arith), flat_drop T (i + length xs) h, flat_append, flat_append)

  flat_free : (m : ℕ) → f free ≡ replicate k 0 → flat f (replicate m free) ≡ replicate (k * m) 0
  flat_free zero e = sym (ap (λ (n : ℕ). replicate {A = ℕ} n 0) (mul-zero k))
  flat_free (suc m) e =
      let q : k + k * m ≡ k * suc m = let z = mul-suc k m in omega arith in
      rw (e, flat_free m e, replicate-append-replicate, q)

  -- the layout is that of the rows and of free ones
  flat_padded : f free ≡ replicate k 0 → (c : ℕ) (xs : List Row) → length xs ≤ c → g c xs ≡ flat f (padded c xs)
  flat_padded e zero [] h = y.none []
  flat_padded e zero (x ∷ xs) h = absurd (omega arith)
  flat_padded e (suc c) [] h =
      let q : suc c - 0 ≡ suc (c - 0) = omega arith in
      rw (q, e) (y.free c ∙ ap (λ (l : List ℕ). replicate k 0 ++ l) (flat_padded e c [] (omega arith)))
  flat_padded e (suc c) (x ∷ xs) h =
      let q : c - length xs ≡ suc c - suc (length xs) = omega arith in
      y.more c x xs ∙ ap (λ (l : List ℕ). f x ++ l) (flat_padded e c xs (omega arith)) ∙ rw q

-- ## The two buffers

free_block : block_of_row free ≡ replicate 64 0
unfolding block_of
free_block = refl

-- The buffers are these rows, one after another.
pub record Lay (T : List Row) (n b : List ℕ) : Type 0 where
  pub numbers_are : n ≡ flat numbers_of_row T
  pub keys_are : b ≡ flat block_of_row T

module _ {T : List Row} {n b : List ℕ} (h : Lay T n b) where
  pub lay_numbers : length n ≡ 8 * length T
  lay_numbers = ap length h.numbers_are ∙ flat_length numbers_laying T

  pub lay_keys : length b ≡ 64 * length T
  lay_keys = ap length h.keys_are ∙ flat_length keys_laying T

  pub lay_put : (i : ℕ) (xs : List Row) (x y n' b' : List ℕ) → i + length xs ≤ length T → x ≡ flat numbers_of_row xs → y ≡ flat block_of_row xs
      → Put i x y n b n' b' → Lay (take i T ++ xs ++ drop (i + length xs) T) n' b'
  lay_put i xs x y n' b' g e f p =
      record {
        numbers_are = p.numbers_are ∙ rw (h.numbers_are, e) (flat_put numbers_laying T i xs g);
        keys_are = p.keys_are ∙ rw (h.keys_are, f) (flat_put keys_laying T i xs g);
      }

  -- one row
  pub lay_set : (i : ℕ) (r : Row) (x y n' b' : List ℕ) → i < length T → x ≡ numbers_of_row r → y ≡ block_of_row r → Put i x y n b n' b' → Lay (set T i r) n' b'
  lay_set i r x y n' b' g e f p =
      let q : take i T ++ (r ∷ []) ++ drop (i + 1) T ≡ set T i r = rw (add-one i, append_snoc, set_split T i r g) in
      rw q at (lay_put i (r ∷ []) x y n' b' (omega arith) e (f ∙ sym (append-nil (block_of_row r))) p)

  pub lay_row : (i : ℕ) → i < length T → take 8 (drop (8 * i) n) ≡ numbers_of_row (get_or T i free)
  lay_row i g = rw h.numbers_are (flat_at numbers_laying T i g)

  pub lay_block : (i : ℕ) → i < length T → take 64 (drop (64 * i) b) ≡ block_of_row (get_or T i free)
  lay_block i g = rw h.keys_are (flat_at keys_laying T i g)
      -- free rows

  pub lay_free : (i m : ℕ) (n' b' : List ℕ) → i + m ≤ length T → Put i (replicate (8 * m) 0) (replicate (64 * m) 0) n b n' b'
      → Lay (take i T ++ replicate m free ++ drop (i + m) T) n' b'
  lay_free i m n' b' g p =
      let l = length-replicate m free in
      let q : take i T ++ replicate m free ++ drop (i + length (replicate m free)) T ≡ take i T ++ replicate m free ++ drop (i + m) T = rw l in
      rw q at (lay_put i (replicate m free) (replicate (8 * m) 0) (replicate (64 * m) 0) n' b' (omega arith)
      (sym (flat_free numbers_laying m refl)) (sym (flat_free keys_laying m free_block)) p)

-- ## Rows that the buffers hold

numbers_padded : (c : ℕ) (xs : List Row) → length xs ≤ c → numbers_of c xs ≡ flat numbers_of_row (padded c xs)
numbers_padded = flat_padded numbers_laying refl

keys_padded : (c : ℕ) (xs : List Row) → length xs ≤ c → keys_of c xs ≡ flat block_of_row (padded c xs)
keys_padded = flat_padded keys_laying free_block

pub holds_lay : (c : ℕ) (xs : List Row) (n b : List ℕ) → Holds c xs n b → Lay (padded c xs) n b
holds_lay c xs n b h =
    record { numbers_are = h.numbers_are ∙ numbers_padded c xs h.room; keys_are = h.keys_are ∙ keys_padded c xs h.room }

pub lay_holds : (c : ℕ) (xs : List Row) (n b : List ℕ) → length xs ≤ c → keys_fit xs ≡ true → Lay (padded c xs) n b → Holds c xs n b
lay_holds c xs n b r k h =
    record { numbers_are = h.numbers_are ∙ sym (numbers_padded c xs r); keys_are = h.keys_are ∙ sym (keys_padded c xs r); room = r; keys_have_room = k }

pub padded_length : (c : ℕ) (xs : List Row) → length xs ≤ c → length (padded c xs) ≡ c
padded_length c xs h = simp (length-append, length-replicate) (omega arith)
