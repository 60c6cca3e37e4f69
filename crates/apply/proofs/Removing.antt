-- Laws of the first pass: the rows that go are left out.
use Prim.Native.Nat.{ℕ, suc, ◌+◌, ◌-◌, ◌*◌, ◌≤◌, ◌<◌}
use mathlib.Core.Path.{◌≡◌, refl, sym, ap, ◌∙◌}
use mathlib.Core.Bool.{Bool, true, false, not}
use mathlib.Core.List.{List, [], ◌∷◌, ◌++◌, map, append_assoc, append-nil}
use Rattle.std.proofs.lemmas.List.{length-map}
use native.Mathlib.Omega.{arith}
use native.Mathlib.Numerals.{add-one}
use lib.ListN.{length, get_or, take, drop, set, replicate, length-set, drop_of_length-le, replicate-append-replicate}
use lib.Seq.{drop-cons, get_or-take, length-take-le, take-suc-set, drop-set-lt, append_snoc, drop_at}
use denote.Enum.Bare.{sameb}
use Rattle.buffers.proofs.Tests.{clash}
use Rattle.model.specs.Rows.{Row}
use Rattle.model.specs.contracts.Fate.{the_type}
use Rattle.model.specs.declared.Fate.{Fate}
use Rattle.model.specs.declared.Fate.TheVariants.{Stays, Goes, Gains}
use Rattle.table.specs.Layout.{Holds, rows_of, keys_fit}
use Rattle.table.proofs.Held.{rows_length}
use Rattle.apply.specs.Passes.{kept, unless_gone, Remaining, Put}
use Rattle.apply.proofs.Flat.{free, padded, padded_length, Lay, lay_numbers, lay_keys, lay_set, lay_row, lay_block, lay_free, holds_lay, lay_holds}
use Rattle.apply.proofs.Passes.{read_fate, kept_more, kept_fit}

-- What a test for going tells of a fate.
not_going : (v : Fate) (q : Bool) → q ≡ not (sameb the_type v Goes) → q ≡ true → v ≡ Goes → ⊥
not_going Stays q e t = λ h. clash q t (e ∙ ap (λ (f : Fate). not (sameb the_type f Goes)) h)
not_going Goes q e t = λ _. clash q t e
not_going Gains q e t = λ h. clash q t (e ∙ ap (λ (f : Fate). not (sameb the_type f Goes)) h)

going : (v : Fate) (q : Bool) → q ≡ not (sameb the_type v Goes) → q ≡ false → v ≡ Goes
going Stays q e t = absurd (clash q e t)
going Goes q e t = refl
going Gains q e t = absurd (clash q e t)

still_there : {A : Type 0} (v : Fate) (x : A) → (v ≡ Goes → ⊥) → unless_gone v x ≡ x ∷ []
still_there Stays x h = refl
still_there Goes x h = absurd (h refl)
still_there Gains x h = refl

-- where the pass stands: i rows are seen, w of them are left
pub record Removing (u : ℕ) (m : List Fate) (c : ℕ) (xs : List Row) (n b : List ℕ) (w i : ℕ) : Type 0 where
  pub table : List Row
  pub lay : Lay table n b
  pub size : length table ≡ c
  pub rest : take w table ++ kept (drop i (take u m)) (drop i table) ≡ kept (take u m) xs
  pub unused : drop u table ≡ replicate (c - u) free
  pub fit : keys_fit xs ≡ true
  pub each : u ≤ length m
  pub low : w ≤ i
  pub most : i ≤ u
  pub room : u ≤ c
  pub numbers : length n ≡ 8 * c
  pub keys : length b ≡ 64 * c

module _ (u : ℕ) (m : List Fate) (c : ℕ) where
  removing_start : (xs : List Row) (n b : List ℕ) → length xs ≡ u → Holds c xs n b → u ≤ length m → Removing u m c xs n b 0 0
  removing_start xs n b l h g =
      let r = h.room in
      let y = holds_lay c xs n b h in
      let z = padded_length c xs r in
      let t = length-take-le u m g in
      record {
        table = padded c xs;
        lay = y;
        size = z;
        rest = kept_more (take u m) xs (replicate (c - length xs) free) (omega arith);
        unused = drop_at xs (replicate (c - length xs) free) u l ∙ rw l;
        fit = h.keys_have_room;
        each = g;
        low = omega arith;
        most = omega arith;
        room = omega arith;
        numbers = let q = lay_numbers y in omega arith;
        keys = let q = lay_keys y in omega arith;
      }

  module _ (xs : List Row) (n b : List ℕ) (w i : ℕ) (p : Removing u m c xs n b w i) where
    module _ (h : i < u) where
      next : kept (drop i (take u m)) (drop i p.table)
          ≡ unless_gone (get_or m i Stays) (get_or p.table i free) ++ kept (drop (suc i) (take u m)) (drop (suc i) p.table)
      next =
          let s = p.size in
          let g = p.each in
          let r = p.room in
          let l = length-take-le u m g in
          rw (drop-cons (take u m) i Stays (omega arith), drop-cons p.table i free (omega arith), get_or-take u m i Stays h)

      pub remove_goes : (v : Fate) (q : Bool) → q ≡ not (sameb the_type v Goes) → q ≡ false → get_or m i Stays ≡ v → Removing u m c xs n b w (i + 1)
      remove_goes v q f t d =
          let e = d ∙ going v q f t in
          let l = p.low in
          record {
            table = p.table;
            lay = p.lay;
            size = p.size;
            rest = rw add-one (rw (next, e) at p.rest);
            unused = p.unused;
            fit = p.fit;
            each = p.each;
            low = omega arith;
            most = omega arith;
            room = p.room;
            numbers = p.numbers;
            keys = p.keys;
          }

      pub remove_stays : (n' b' : List ℕ) (v : Fate) (r : Bool) → r ≡ not (sameb the_type v Goes) → r ≡ true → get_or m i Stays ≡ v → Put w (take 8 (drop (8 * i) n)) (take 64 (drop (64 * i) b)) n b n' b'
          → Removing u m c xs n' b' (w + 1) (i + 1)
      remove_stays n' b' v r f t d q =
          let e : get_or m i Stays ≡ Goes → ⊥ = λ h. not_going v r f t (sym d ∙ h) in
          let x : Row = get_or p.table i free in
          let s = p.size in
          let l = p.low in
          let r = p.room in
          let y = lay_set p.lay w x (take 8 (drop (8 * i) n)) (take 64 (drop (64 * i) b)) n' b' (omega arith) (lay_row p.lay i (omega arith)) (lay_block p.lay i (omega arith)) q in
          let z = length-set p.table w x in
          let o = rw (next, still_there (get_or m i Stays) x e) at p.rest in
          record {
            table = set p.table w x;
            lay = y;
            size = z ∙ s;
            rest = rw (add-one w, add-one i, take-suc-set p.table w x (omega arith), drop-set-lt (suc i) p.table w x (omega arith), append_snoc) o;
            unused = drop-set-lt u p.table w x (omega arith) ∙ p.unused;
            fit = p.fit;
            each = p.each;
            low = omega arith;
            most = omega arith;
            room = r;
            numbers = let q = lay_numbers y in omega arith;
            keys = let q = lay_keys y in omega arith;
          }

    pub remove_end : (n' b' : List ℕ) → u ≤ i → Put w (replicate (8 * (u - w)) 0) (replicate (64 * (u - w)) 0) n b n' b'
        → Remaining c (kept (take u m) xs) n' b' w
    remove_end n' b' h q =
        let s = p.size in
        let l = p.low in
        let o = p.most in
        let r = p.room in
        let t = length-take-le u m p.each in
        let k : take w p.table ≡ kept (take u m) xs =
        sym (append-nil (take w p.table)) ∙ rw (drop_of_length-le (take u m) {i = i} (omega arith)) at p.rest in
        let j : length (kept (take u m) xs) ≡ w = ap length (sym k) ∙ length-take-le w p.table (omega arith) in
        let a : w + (u - w) ≡ u = omega arith in
        let d : u - w + (c - u) ≡ c - w = omega arith in
        let y = lay_free p.lay w (u - w) n' b' (omega arith) q in
        let z : take w p.table ++ replicate (u - w) free ++ drop (w + (u - w)) p.table ≡ padded c (kept (take u m) xs) =
        rw (a, p.unused, append_assoc, replicate-append-replicate, d, j, k) in
        record {
          holds = lay_holds c (kept (take u m) xs) n' b' (omega arith) (kept_fit (take u m) xs p.fit) (rw z at y);
          many = sym j;
        }

module _ {A : Type 0} (fate_in : A → Fate) (fs : List A) where
  pub remove_start : (u c : ℕ) (n b : List ℕ) → Holds c (rows_of n b u) n b → u ≤ length fs → Removing u (map fate_in fs) c (rows_of n b u) n b 0 0
  remove_start u c n b h g = removing_start u (map fate_in fs) c (rows_of n b u) n b (rows_length n b u) h (omega (arith, g, length-map fs fate_in))

  -- The fate at the place where the pass stands.
  pub remove_read : (u c : ℕ) (xs : List Row) (n b : List ℕ) (w i : ℕ) (r : A) (f : Fate) → Removing u (map fate_in fs) c xs n b w i → i < u → r ≡ get_or fs i r → f ≡ fate_in r → get_or (map fate_in fs) i Stays ≡ f
  remove_read u c xs n b w i r f p h g e = read_fate fate_in fs i r f e g (omega (arith, p.each, h, length-map fs fate_in))

pub ruleset remove_cases = (remove_start, remove_goes, remove_stays, remove_end, remove_read)
