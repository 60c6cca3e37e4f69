-- The marks of a line: the loop that makes them, and the places that they give.
use Prim.Native.Nat.{ℕ, zero, suc, ◌+◌, ◌*◌, ◌-◌, ◌/◌, ◌^◌, ◌≤◌, ◌<◌}
use mathlib.Core.Path.{◌≡◌, refl, sym, ◌∙◌}
use mathlib.Core.Logic.{inl, inr}
use mathlib.Core.List.{List}
use native.Mathlib.Omega.{arith}
use native.Mathlib.Nat.{add-zero}
use Rattle.std.proofs.Common.{min}
use Rattle.std.proofs.Math.Nat.{min-eq_left, min-eq_right}
use lib.Dec.{eqb, ltb}
use lib.ListN.{length, get_or, set, take, drop, replicate, length-set, length-drop, get_or-replicate, drop_of_length-le}
use lib.Seq.{drop-drop, length-take-le, get_or-set_same, get_or-set_other}
use lib.Bits.{bit_and, and_le_r}
use lib.Count.{count_trailing_zeros}
use mir.Syntax.{w64}
use mir.Val.{Fits}
use borrow.Author.Tests.{eq-eqb, ne_eqb, ltb-true, ltb-false, eqb-true, eqb-false}
use Rattle.buffers.proofs.Tests.{either}
use Rattle.buffers.proofs.Parts.{part_element, rest_all}
use Rattle.text.specs.declared.Place.{Place}
use Rattle.text.specs.Fields.{field_of, tabs_in, start_of, end_of, place_of, Split, Marking, Piece}
use Rattle.text.specs.Bits.{bits_of}
use Rattle.text.proofs.Scans.{next}
use Rattle.text.proofs.Sixteens.{block_long, last_long}
use Rattle.text.proofs.Bits.{bits_from, First, lowest, cleared, none_left, absent, zeros_fit, bits_drop}
use Rattle.text.proofs.Fields.{start_zero, end_tab, end_other, next_start, last_start, end_is, end_most}

-- ## The loop

pub mark_start : (s : List ℕ) → Marking s 0 0 (replicate 9 (length s))
mark_start s =
    record {
      within = omega arith;
      few = omega arith;
      long = refl;
      count = omega arith;
      ended = λ j a b. absurd (omega arith);
      left = λ j a b. get_or-replicate 9 j (length s) 0 (omega arith);
      rest = λ j a. let z : j - 0 ≡ j = omega arith in rw z (omega arith);
    }

module _ (s : List ℕ) (i n : ℕ) (m : List ℕ) (h : i < length s) (k : Marking s i n m) where
  pub mark_other : (get_or s i 0 ≡ 9 → ⊥) → Marking s (i + 1) n m
  mark_other t =
      let f = k.few in
      record {
        within = omega arith;
        few = omega arith;
        long = k.long;
        count = k.count ∙ rw (next s i h, ne_eqb _ _ t) (omega arith);
        ended = k.ended;
        left = k.left;
        rest = λ j a. k.rest j a ∙ rw (next s i h) (rw (end_other (get_or s i 0) (drop (i + 1) s) (j - n) t) (omega arith));
      }

  module _ (t : get_or s i 0 ≡ 9) where
    here : end_of s n ≡ i
    here = k.rest n (omega arith) ∙ (let z : n - n ≡ 0 = omega arith in rw (z, next s i h, eq-eqb _ _ t) (omega arith))

    count_tab : tabs_in s ≡ n + 1 + tabs_in (drop (i + 1) s)
    count_tab = k.count ∙ rw (next s i h, eq-eqb _ _ t) (omega arith)

    rest_tab : (j : ℕ) → n + 1 ≤ j → end_of s j ≡ i + 1 + end_of (drop (i + 1) s) (j - (n + 1))
    rest_tab j a =
        let z : j - n ≡ suc (j - (n + 1)) = omega arith in
        k.rest j (omega arith) ∙ rw (z, next s i h) (rw (end_tab (get_or s i 0) (drop (i + 1) s) (j - (n + 1)) t) (omega arith))

    pub mark_tab : n + 1 ≤ 9 → Marking s (i + 1) (n + 1) (set m (n + 1 - 1) i)
    mark_tab q =
        let f = k.few in
        let l = k.long in
        let z : n + 1 - 1 ≡ n = omega arith in
        rw z (record {
          within = omega arith;
          few = omega arith;
          long = length-set m n i ∙ k.long;
          count = count_tab;
          ended =
              λ j a b.
              elim (either (eqb j n)) [
                | inl e ↦ let z = eqb-true j n e in rw z (get_or-set_same m n i 0 (omega arith) ∙ sym here)
                | inr e ↦ let z = eqb-false j n e in get_or-set_other m n j i 0 z ∙ k.ended j a (omega arith)
              ];
          left = λ j a b. get_or-set_other m n j i 0 (λ z. omega arith) ∙ k.left j a (omega arith);
          rest = rest_tab;
        })

    pub mark_more : 9 < n + 1 → Marking s (i + 1) (n + 1) m
    mark_more q =
        let f = k.few in
        record {
          within = omega arith;
          few = omega arith;
          long = k.long;
          count = count_tab;
          ended = λ j a b. k.ended j a (omega arith);
          left = λ j a b. absurd (omega arith);
          rest = rest_tab;
        }

-- Bytes that are no tabs are passed.
pub mark_pass : (s : List ℕ) (i n : ℕ) (m : List ℕ) → Marking s i n m → (d : ℕ) → i + d ≤ length s → ((x : ℕ) → i ≤ x → x < i + d → get_or s x 0 ≡ 9 → ⊥)
    → Marking s (i + d) n m
mark_pass s i n m k zero h f = rw (add-zero i) k
mark_pass s i n m k (suc d) h f =
    let e : i + suc d ≡ i + d + 1 = omega arith in
    rw e (mark_other s (i + d) n m (omega arith) (mark_pass s i n m k d (omega arith) (λ x a b. f x a (omega arith))) (f (i + d) (omega arith) (omega arith)))

-- ## Tabs given as bits

-- The tabs of a piece up to some place are marked, and the bits of the others are left.
pub record Walking (s : List ℕ) (start end n bits : ℕ) (m : List ℕ) : Type 0 where
  pub far : ℕ
  pub before : start + far ≤ end
  pub piece : Piece s start end 16
  pub few : n ≤ length s
  pub long : length m ≡ 9
  pub left : bits ≡ bits_from 9 far (take (end - start) (drop start s))
  pub done : Marking s (start + far) n m

module _ (s : List ℕ) (start end n bits : ℕ) (m : List ℕ) where
  pub walk_start : Marking s start n m → Piece s start end 16 → bits ≡ bits_of 9 (take (end - start) (drop start s)) → Walking s start end n bits m
  walk_start k p e =
      let a = k.few in
      let b = k.within in
      let c = p.from in
      record { far = 0; before = omega arith; piece = p; few = omega arith; long = k.long; left = e; done = rw (add-zero start) k }

  module _ (w : Walking s start end n bits m) where
    piece_long : length (take (end - start) (drop start s)) ≡ end - start
    piece_long =
        let a = w.piece.from in
        let b = w.piece.to in
        let d = length-drop start s in
        length-take-le (end - start) (drop start s) (omega arith)

    pub walk_end : bits ≡ 0 → Marking s end n m
    walk_end z =
        let a = w.before in
        let b = w.piece.to in
        let l = piece_long in
        let e : start + w.far + (end - (start + w.far)) ≡ end = omega arith in
        let d : start + (end - start) ≡ end = omega arith in
        let f = absent 9 s start (end - start) w.far (end - start) (omega arith) (λ i g h. none_left 9 w.far (take (end - start) (drop start s)) (sym w.left ∙ z) i g (rw l h)) in
        rw e at (mark_pass s (start + w.far) n m w.done (end - (start + w.far)) (omega arith) (λ x g h. f x g (omega arith)))

    module _ (h : bits ≡ 0 → ⊥) where
      found : First 9 w.far (take (end - start) (drop start s)) (count_trailing_zeros 64 bits)
      found =
          let l = piece_long in
          let p = w.piece.most in
          rw w.left (lowest 9 64 w.far (take (end - start) (drop start s)) (omega arith) (λ e. h (w.left ∙ e)))

      pub walk_fits : Fits w64 end → Fits w64 (start + count_trailing_zeros 64 bits)
      walk_fits f =
          let a = found.within in
          let l = piece_long in
          let e = f.fits in
          record { fits = omega arith }

      walk_at : start + count_trailing_zeros 64 bits < length s
      walk_at =
          let a = found.within in
          let b = w.piece.to in
          let l = piece_long in
          omega arith

      at_tab : get_or s (start + count_trailing_zeros 64 bits) 0 ≡ 9
      at_tab = let a = found.within in let l = piece_long in part_element s start (count_trailing_zeros 64 bits) (end - start) (omega arith) ∙ found.hit

      to_tab : Marking s (start + count_trailing_zeros 64 bits) n m
      to_tab =
          let a = found.from in
          let b = found.within in
          let c = walk_at in
          let l = piece_long in
          let e : start + w.far + (count_trailing_zeros 64 bits - w.far) ≡ start + count_trailing_zeros 64 bits = omega arith in
          let f = absent 9 s start (end - start) w.far (count_trailing_zeros 64 bits) (omega arith) found.none in
          rw e at (mark_pass s (start + w.far) n m w.done (count_trailing_zeros 64 bits - w.far) (omega arith) (λ x g q. f x g (omega arith)))

      behind : (k : List ℕ) → length k ≡ 9 → Marking s (start + count_trailing_zeros 64 bits + 1) (n + 1) k → Walking s start end (n + 1) (bit_and bits (bits - 1)) k
      behind k j q =
          let a = found.within in
          let b = q.few in
          let c = walk_at in
          let l = piece_long in
          let p = w.piece.most in
          let e : start + suc (count_trailing_zeros 64 bits) ≡ start + count_trailing_zeros 64 bits + 1 = omega arith in
          record {
            far = suc (count_trailing_zeros 64 bits);
            before = omega arith;
            piece = w.piece;
            few = omega arith;
            long = j;
            left = rw w.left (cleared 9 64 w.far (take (end - start) (drop start s)) (omega arith) (λ z. h (w.left ∙ z)));
            done = rw e q;
          }

      pub walk_mark : n + 1 ≤ 9 → Walking s start end (n + 1) (bit_and bits (bits - 1)) (set m (n + 1 - 1) (start + count_trailing_zeros 64 bits))
      walk_mark q = behind _ (length-set m (n + 1 - 1) _ ∙ w.long) (mark_tab s (start + count_trailing_zeros 64 bits) n m walk_at to_tab at_tab q)

      pub walk_more : 9 < n + 1 → Walking s start end (n + 1) (bit_and bits (bits - 1)) m
      walk_more q = behind m w.long (mark_more s (start + count_trailing_zeros 64 bits) n m walk_at to_tab at_tab q)

pub walk_less : (bits : ℕ) → (bits ≡ 0 → ⊥) → bit_and bits (bits - 1) < bits
walk_less bits h = let l = and_le_r bits (bits - 1) in omega arith

pub ruleset walking = (zeros_fit, walk_start, walk_end, walk_fits, walk_mark, walk_more, walk_less)

-- ## Blocks of 16 bytes

module _ (s : List ℕ) (i : ℕ) where
  pub block_piece : i < length s / 16 → Piece s (i * 16) (i * 16 + 16) 16
  block_piece h = record { from = omega arith; to = omega arith; most = omega arith }

  pub last_piece : Piece s (length s / 16 * 16) (length s) 16
  last_piece = record { from = omega arith; to = omega arith; most = omega arith }

  pub last_is : (r : ℕ) → 16 ≤ length s → length s ≤ i + 16 → r ≡ bits_of 9 (take (length s - (length s - 16)) (drop (length s - 16) s))
      → r / 2 ^ (i - (length s - 16)) ≡ bits_of 9 (take (length s - i) (drop i s))
  last_is r h k e =
      let z : length s - 16 + (i - (length s - 16)) ≡ i = omega arith in
      rw (e, rest_all (length s - 16) s, rest_all i s, bits_drop 9 (i - (length s - 16)) (drop (length s - 16) s), drop-drop (i - (length s - 16)) (length s - 16) s, z)

pub ruleset last_cases = (last_long, last_is)

pub ruleset block_cases = (block_long, block_piece, last_piece)

-- ## The whole line

pub marked : (s : List ℕ) (n : ℕ) (m : List ℕ) → Marking s (length s) n m → Split s m n
marked s n m k = record { long = k.long; ended = ends; count = sym (k.count ∙ rw (drop_of_length-le s {i = length s} (omega arith)) (omega arith)) }
  where
    ends : (j : ℕ) → j < 9 → get_or m j 0 ≡ end_of s j
    ends j a =
        elim (either (ltb j n)) [
          | inl t ↦ k.ended j a (ltb-true j n t)
          | inr t ↦
              let b = ltb-false j n t in
              let w = k.within in
              let e : end_of s j ≡ length s + 0 = k.rest j b ∙ rw (drop_of_length-le s {i = length s} (omega arith)) in
              let l = k.left j a b in
              omega arith
        ]

pub ruleset marks = (mark_start, marked)

-- ## The places of fields

module _ (s m : List ℕ) (n : ℕ) (k : Split s m n) (i : ℕ) (h : i < 9) where
  pub start_first : i ≡ 0 → 0 ≡ start_of s i
  start_first z = sym (rw z (start_zero s))

  pub end_before : (i ≡ 0 → ⊥) → get_or m (i - 1) 0 ≤ length s
  end_before z = let e = k.ended (i - 1) (omega arith) in let w = end_most s (i - 1) in omega arith

  pub start_behind : (i ≡ 0 → ⊥) → min (get_or m (i - 1) 0 + 1) (length s) ≡ start_of s i
  start_behind z =
      let e = k.ended (i - 1) (omega arith) in
      let w = end_most s (i - 1) in
      let y : suc (i - 1) ≡ i = omega arith in
      elim (either (ltb (end_of s (i - 1)) (length s))) [
        | inl t ↦
            let q = ltb-true _ _ t in
            let x : start_of s i ≡ suc (end_of s (i - 1)) = rw y at (next_start s (i - 1) q) in
            let f : get_or m (i - 1) 0 + 1 ≤ length s = omega arith in
            min-eq_left f ∙ omega arith
        | inr t ↦
            let q = ltb-false _ _ t in
            let x : start_of s i ≡ end_of s (i - 1) = rw y at (last_start s (i - 1) q) in
            let f : length s ≤ get_or m (i - 1) 0 + 1 = omega arith in
            min-eq_right f ∙ omega arith
      ]

  module _ (a : ℕ) (q : a ≡ start_of s i) where
    pub start_before : a ≤ get_or m i 0
    start_before = let e = k.ended i h in let d = end_is s i in omega arith

    pub place_marked : ◌≡◌ {A = Place} (record { start = a; len = get_or m i 0 - a }) (place_of s i)
    unfolding place_of
    place_marked =
        let e = k.ended i h in
        let d = end_is s i in
        let l : get_or m i 0 - a ≡ length (field_of s i) = omega arith in
        rw (l, q)

pub ruleset starts = (start_first, end_before, start_behind)

pub ruleset places = (start_before, place_marked)
