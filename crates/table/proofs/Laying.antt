-- Rows laid out one after the other, k elements each, with zeros for the free rows: a change in the buffer is the change in the list.
use Prim.Native.Nat.{ℕ, zero, suc, ◌+◌, ◌-◌, ◌*◌, ◌≤◌, ◌<◌}
use mathlib.Core.Path.{◌≡◌, refl, sym, ap, ◌∙◌}
use mathlib.Core.List.{List, [], ◌∷◌, ◌++◌, append-nil, append_assoc}
use native.Mathlib.Omega.{arith}
use native.Mathlib.Nat.{mul-zero, mul-suc, mul-add}
use lib.ListN.{length, take, drop, replicate, length-append, length-replicate, take-append-drop}
use lib.Seq.{drop_at, length-take-le}
use Rattle.buffers.specs.Writes.{placed}
use Rattle.model.specs.Rows.{Row}
use Rattle.table.specs.Moves.{opened, closed}
use Rattle.table.proofs.Pieces.{replaced, moved_up_lem, moved_down_lem}

-- lay c xs: c rows, the first as `part` writes them, the others zero
pub record Laying (part : Row → List ℕ) (k : ℕ) (lay : ℕ → List Row → List ℕ) : Type 0 where
  pub wide : (x : Row) → length (part x) ≡ k
  pub none : (xs : List Row) → lay zero xs ≡ []
  pub free : (c : ℕ) → lay (suc c) [] ≡ replicate k 0 ++ lay c []
  pub more : (c : ℕ) (x : Row) (xs : List Row) → lay (suc c) (x ∷ xs) ≡ part x ++ lay c xs

-- the rows without the free ones
abbrev pub flat : (Row → List ℕ) → List Row → List ℕ
flat f [] = []
flat f (x ∷ xs) = f x ++ flat f xs

pub flat_append : (f : Row → List ℕ) (xs ys : List Row) → flat f (xs ++ ys) ≡ flat f xs ++ flat f ys
flat_append f [] ys = refl
flat_append f (x ∷ xs) ys = ap (λ (l : List ℕ). f x ++ l) (flat_append f xs ys) ∙ sym (append_assoc (f x) (flat f xs) (flat f ys))

module _ {part : Row → List ℕ} {k : ℕ} {lay : ℕ → List Row → List ℕ} (y : Laying part k lay) where
  pub lay_length : (c : ℕ) (xs : List Row) → length (lay c xs) ≡ k * c
  lay_length zero xs = ap length (y.none xs) ∙ sym (mul-zero k)
  lay_length (suc c) [] =
      ap length (y.free c) ∙ length-append (replicate k 0) (lay c []) ∙ rw (length-replicate, lay_length c [], mul-suc) (omega arith)
  lay_length (suc c) (x ∷ xs) =
      ap length (y.more c x xs) ∙ length-append (part x) (lay c xs) ∙ rw (y.wide x, lay_length c xs, mul-suc) (omega arith)

  pub flat_length : (xs : List Row) → length (flat part xs) ≡ k * length xs
  flat_length [] = sym (mul-zero k)
  flat_length (x ∷ xs) = length-append (part x) (flat part xs) ∙ rw (y.wide x, flat_length xs, mul-suc) (omega arith)

  -- the rows in front of the others
  lay_append : (xs ys : List Row) (c d : ℕ) → c ≡ length xs + d → lay c (xs ++ ys) ≡ flat part xs ++ lay d ys
  lay_append [] ys c d h = let q : c ≡ d = omega arith in rw q
  lay_append (x ∷ xs) ys zero d h = absurd (omega arith)
  lay_append (x ∷ xs) ys (suc c) d h =
      y.more c x (xs ++ ys) ∙ ap (λ (l : List ℕ). part x ++ l) (lay_append xs ys c d (omega arith))
      ∙ sym (append_assoc (part x) (flat part xs) (lay d ys))

  -- The buffer from a row on.
  pub lay_rest : (i c : ℕ) (xs : List Row) → i ≤ length xs → length xs ≤ c → drop (k * i) (lay c xs) ≡ lay (c - i) (drop i xs)
  lay_rest i c xs h g =
      let n : length (take i xs) ≡ i = length-take-le i xs h in
      let e : lay c xs ≡ flat part (take i xs) ++ lay (c - i) (drop i xs) =
      ap (lay c) (sym (take-append-drop i xs)) ∙ lay_append (take i xs) (drop i xs) c (c - i) (omega arith) in
      ap (drop (k * i)) e ∙ drop_at (flat part (take i xs)) (lay (c - i) (drop i xs)) (k * i) (flat_length (take i xs) ∙ ap (λ (m : ℕ). k * m) n)

  -- two runs of rows, then d free ones
  pieces : (xs ys : List Row) (c d : ℕ) → c ≡ length xs + length ys + d → lay c (xs ++ ys) ≡ flat part xs ++ (flat part ys ++ lay d [])
  pieces xs ys c d h =
      ap (λ (l : List Row). lay c (xs ++ l)) (sym (append-nil ys)) ∙ lay_append xs (ys ++ []) c (length ys + d) (omega arith)
      ∙ ap (λ (l : List ℕ). flat part xs ++ l) (lay_append ys [] (length ys + d) d refl)

  sum_length : (xs ys : List Row) (u : ℕ) → u ≡ length xs + length ys → k * u ≡ length (flat part xs) + length (flat part ys)
  sum_length xs ys u e = rw (e, mul-add, flat_length xs, flat_length ys)

  module _ (xs ys : List Row) (c at : ℕ) (place : at ≡ length xs) where
    front : length (flat part xs) ≡ k * at
    front = flat_length xs ∙ ap (λ (m : ℕ). k * m) (sym place)

    -- a row more behind the first run
    one_more : (x : Row) (d : ℕ) → c ≡ suc (length xs + length ys) + d → lay c (xs ++ x ∷ ys) ≡ flat part xs ++ (part x ++ (flat part ys ++ lay d []))
    one_more x d h =
        pieces xs (x ∷ ys) c d (omega arith) ∙ ap (λ (l : List ℕ). flat part xs ++ l) (append_assoc (part x) (flat part ys) (lay d []))

    open_rows : (u d : ℕ) → u ≡ length xs + length ys → c ≡ suc (length xs + length ys) + d
        → opened k u at (lay c (xs ++ ys)) ≡ flat part xs ++ (take k (flat part ys ++ replicate k 0) ++ (flat part ys ++ lay d []))
    unfolding opened
    open_rows u d e h =
        let z = length-replicate {A = ℕ} k 0 in
        let n = length-append (flat part ys) (replicate k 0) in
        let s = sum_length xs ys u e in
        let f = front in
        let w : lay c (xs ++ ys) ≡ flat part xs ++ ((flat part ys ++ replicate k 0) ++ lay d []) =
        pieces xs ys c (suc d) (omega arith)
        ∙ ap (λ (l : List ℕ). flat part xs ++ l) (ap (λ (l : List ℕ). flat part ys ++ l) (y.free d) ∙ sym (append_assoc (flat part ys) (replicate k 0) (lay d []))) in
        rw w (moved_up_lem k (flat part xs) (lay d []) (k * at) (k * u + k) f (flat part ys) (replicate k 0) z (omega arith))

    -- A row written where the rows were moved on is a row more.
    pub lay_insert : (x : Row) (u : ℕ) → u ≡ length xs + length ys → u < c → placed (opened k u at (lay c (xs ++ ys))) (k * at) (part x) ≡ lay c (xs ++ x ∷ ys)
    lay_insert x u e h =
        let z = length-replicate {A = ℕ} k 0 in
        let n = length-append (flat part ys) (replicate k 0) in
        let d = c - suc u in
        let q : length (take k (flat part ys ++ replicate k 0)) ≡ k = length-take-le k (flat part ys ++ replicate k 0) (omega arith) in
        ap (λ (l : List ℕ). placed l (k * at) (part x)) (open_rows u d e (omega arith))
        ∙ replaced (flat part xs) (take k (flat part ys ++ replicate k 0)) (part x) (flat part ys ++ lay d []) (k * at) front (y.wide x ∙ sym q)
        ∙ sym (one_more x d (omega arith))

    pub lay_remove : (w : Row) (u : ℕ) → u ≡ length xs + suc (length ys) → u ≤ c → closed k 0 u at (lay c (xs ++ w ∷ ys)) ≡ lay c (xs ++ ys)
    unfolding closed
    lay_remove w u e h =
        let d = c - u in
        let n = length-append (part w) (flat part ys) in
        let s = sum_length xs (w ∷ ys) u e in
        let f = front in
        rw (pieces xs (w ∷ ys) c d (omega arith))
        (moved_down_lem k (flat part xs) (lay d []) (k * at) (k * u) f (part w) (flat part ys) (y.wide w) (omega arith)
        ∙ sym (pieces xs ys c (suc d) (omega arith) ∙ ap (λ (l : List ℕ). flat part xs ++ (flat part ys ++ l)) (y.free d)))

    pub lay_rewrite : (x w : Row) → length xs < c → placed (lay c (xs ++ w ∷ ys)) (k * at) (part x) ≡ lay c (xs ++ x ∷ ys)
    lay_rewrite x w h =
        let d = c - suc (length xs) in
        let s : (v : Row) → lay c (xs ++ v ∷ ys) ≡ flat part xs ++ (part v ++ lay d ys) =
        λ v. lay_append xs (v ∷ ys) c (suc d) (omega arith) ∙ ap (λ (l : List ℕ). flat part xs ++ l) (y.more d v ys) in
        rw (s w, s x) (replaced (flat part xs) (part w) (part x) (lay d ys) (k * at) front (y.wide x ∙ sym (y.wide w)))
