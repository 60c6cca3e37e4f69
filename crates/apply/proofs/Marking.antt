-- Laws of the second pass: markers come in, from the last row to the first.
use Prim.Native.Nat.{ℕ, zero, suc, ◌+◌, ◌-◌, ◌*◌, ◌≤◌, ◌<◌}
use mathlib.Core.Path.{◌≡◌, refl, sym, ap, ◌∙◌}
use mathlib.Core.Bool.{true}
use mathlib.Core.List.{List, [], ◌∷◌, ◌++◌, map, append_assoc, append-nil}
use Rattle.std.proofs.lemmas.List.{length-map}
use native.Mathlib.Omega.{arith}
use native.Mathlib.Nat.{add-zero}
use lib.ListN.{length, get_or, take, drop, set, replicate, length-append, length-set, take-append-drop, length-drop}
use lib.Seq.{take-suc, take_at, drop_at, length-take-le, take-set-le, set_split, append_snoc, drop-append-add, take-append-le, take-take}
use Rattle.buffers.specs.Lists.{total}
use Rattle.buffers.proofs.Lists.{total_append}
use Rattle.model.specs.Rows.{Row}
use Rattle.model.specs.Settings.{spent_number}
use Rattle.model.specs.declared.Fate.{Fate}
use Rattle.model.specs.declared.Fate.TheVariants.{Stays, Goes, Gains}
use Rattle.model.specs.Sweep.{in_place, marker, marks, carried_out}
use Rattle.table.specs.Layout.{Holds, numbers_of_row, rows_of, keys_fit, capacity}
use Rattle.table.proofs.Held.{rows_length}
use Rattle.model.proofs.Sweeping.{carried_append}
use Rattle.apply.specs.Passes.{kept, unless_gone, InBuffers, Put, Thinned}
use Rattle.apply.proofs.Flat.{free, padded, padded_length, Lay, lay_numbers, lay_keys, lay_put, lay_set, lay_row, lay_block, holds_lay, lay_holds}
use Rattle.apply.proofs.Passes.{read_fate, marks_few, kept_append, kept_marks, carried_length, carried_fit}

-- the fates of the first so many rows, and those of them that are left
abbrev firsts : List Fate → ℕ → List Fate
firsts m j = take j m

abbrev stayers : List Fate → ℕ → List Fate
stayers m j = kept (firsts m j) (firsts m j)

-- ## The last of the fates

record Last (m : List Fate) (j : ℕ) (f : Fate) : Type 0 where
  stayers_are : stayers m j ≡ stayers m (j - 1) ++ unless_gone f f
  marks_are : total marks (firsts m j) ≡ total marks (firsts m (j - 1)) + marks f

last_fate : (m : List Fate) (j : ℕ) (f : Fate) → 0 < j → j ≤ length m → get_or m (j - 1) Stays ≡ f → Last m j f
last_fate m j f h g e =
    let q : j ≡ suc (j - 1) = omega arith in
    let a : firsts m j ≡ firsts m (j - 1) ++ (f ∷ []) =
    ap (firsts m) q ∙ take-suc m (j - 1) Stays (omega arith)
    ∙ ap (λ (x : Fate). firsts m (j - 1) ++ (x ∷ [])) e in
    record {
      stayers_are = rw (a, kept_append (firsts m (j - 1)) (f ∷ []) (firsts m (j - 1)) (f ∷ []) refl, append-nil);
      marks_are = rw (a, total_append, add-zero);
    }

few_markers : (m : List Fate) (j k : ℕ) → j ≤ length m → k ≡ total marks (firsts m j) → k ≤ j
few_markers m j k h e =
    let a = marks_few (firsts m j) in
    let d = length-take-le j m h in
    omega arith

-- ## Carrying out, where no fate or one more is left

carried_none : (t n : ℕ) (fs : List Fate) (xs : List Row) → total marks fs ≡ 0 → length xs ≡ length (kept fs fs) → carried_out t n (kept fs fs) xs ≡ xs
carried_none t n [] [] e l = refl
carried_none t n [] (x ∷ xs) e l = absurd (omega arith)
carried_none t n (Goes ∷ fs) xs e l = carried_none t n fs xs (omega arith) l
carried_none t n (Stays ∷ fs) [] e l = absurd (omega arith)
carried_none t n (Stays ∷ fs) (x ∷ xs) e l = ap (λ (q : List Row). x ∷ q) (carried_none t (n + 0) fs xs (omega arith) (omega arith))
carried_none t n (Gains ∷ fs) xs e l = absurd (omega arith)

carried_last : (t n : ℕ) (R : List Fate) (f : Fate) (T : List Row) (a b : ℕ) → b ≡ suc a → a < length T → length R ≡ a
    → carried_out t n (R ++ (f ∷ [])) (take b T) ≡ carried_out t n R (take a T) ++ in_place f t (n + total marks R) (get_or T a free)
carried_last t n R f T a b e h l =
    let q = length-take-le a T (omega arith) in
    rw (e, take-suc T a free h, carried_append t n R (f ∷ []) (take a T) (get_or T a free ∷ []) (q ∙ sym l), append-nil)

drop_set : (T : List Row) (a : ℕ) (x : Row) → a < length T → drop a (set T a x) ≡ x ∷ drop (suc a) T
drop_set T a x h = rw (set_split T a x h) (drop_at (take a T) (x ∷ drop (suc a) T) a (length-take-le a T (omega arith)))

-- ## Where the pass stands: of the first j fates i rows and k markers are to come

pub record Marking (t next u : ℕ) (m : List Fate) (c : ℕ) (xs : List Row) (n b : List ℕ) (j i k : ℕ) : Type 0 where
  pub table : List Row
  pub lay : Lay table n b
  pub size : length table ≡ c
  pub rest : carried_out t next (stayers m j) (take i table) ++ drop (i + k) table ≡ padded c (carried_out t next (stayers m u) xs)
  pub rows : i ≡ length (stayers m j)
  pub markers : k ≡ total marks (firsts m j)
  pub behind : k ≤ j
  pub fit : keys_fit xs ≡ true
  pub whole : length (carried_out t next (stayers m u) xs) ≤ c
  pub most : j ≤ length m
  pub room : i + k ≤ c
  pub few : next + k ≤ spent_number
  pub numbers : length n ≡ 8 * c
  pub keys : length b ≡ 64 * c

module _ (t next u : ℕ) (m : List Fate) (c : ℕ) (xs : List Row) where
  marking_start : (n b : List ℕ) (left added : ℕ) → length xs ≡ left → Holds c xs n b → u ≤ length m → left ≡ length (stayers m u) → added ≡ total marks (firsts m u)
      → left + added ≤ c → next + added ≤ spent_number → Marking t next u m c xs n b u left added
  marking_start n b left added l h g e f r w =
      let y = holds_lay c xs n b h in
      let z = padded_length c xs h.room in
      let v = carried_length t next (firsts m u) xs (l ∙ e) in
      let a : take left (padded c xs) ≡ xs = take_at xs (replicate (c - length xs) free) left l in
      let d : drop (left + added) (padded c xs) ≡ replicate (c - length (carried_out t next (stayers m u) xs)) free =
      free_after xs c left added l r ∙ ap (λ (k : ℕ). replicate (c - k) free) (let q : left + added ≡ length (carried_out t next (stayers m u) xs) = omega arith in q) in
      record {
        table = padded c xs;
        lay = y;
        size = z;
        rest = rw (a, d);
        rows = e;
        markers = f;
        behind = few_markers m u added g f;
        fit = h.keys_have_room;
        whole = omega arith;
        most = g;
        room = r;
        few = w;
        numbers = let q = lay_numbers y in omega arith;
        keys = let q = lay_keys y in omega arith;
      }
    where
      drop_free : (a k : ℕ) → drop a (replicate k free) ≡ replicate (k - a) free
      drop_free zero k = let q : k - 0 ≡ k = omega arith in rw q
      drop_free (suc a) zero = let q : 0 - suc a ≡ 0 = omega arith in rw q
      drop_free (suc a) (suc k) = let q : suc k - suc a ≡ k - a = omega arith in rw q (drop_free a k)

      free_after : (xs : List Row) (c left added : ℕ) → length xs ≡ left → left + added ≤ c → drop (left + added) (padded c xs) ≡ replicate (c - (left + added)) free
      free_after xs c left added l r =
          let q : c - length xs - added ≡ c - (left + added) = omega arith in
          ap (λ (z : ℕ). drop (z + added) (padded c xs)) (sym l) ∙ drop-append-add xs (replicate (c - length xs) free) added ∙ drop_free added (c - length xs)
          ∙ ap (λ (z : ℕ). replicate z free) q

  module _ (n b : List ℕ) (j i k : ℕ) (p : Marking t next u m c xs n b j i k) where
    pub mark_end : k ≤ 0 → Holds c (carried_out t next (stayers m u) xs) n b
    mark_end h =
        let q : k ≡ 0 = omega arith in
        let s = p.size in
        let r = p.room in
        let o : i + 0 ≡ i = add-zero i in
        let e = carried_none t next (firsts m j) (take i p.table) (sym p.markers ∙ q) (length-take-le i p.table (omega arith) ∙ p.rows) in
        let y : p.table ≡ padded c (carried_out t next (stayers m u) xs) = sym (take-append-drop i p.table) ∙ rw (q, o, e) at p.rest in
        lay_holds c (carried_out t next (stayers m u) xs) n b p.whole (carried_fit t next (stayers m u) xs p.fit) (rw y at p.lay)

    module _ (h : 0 < k) where
      last : Last m j (get_or m (j - 1) Stays)
      last = let q = p.behind in last_fate m j (get_or m (j - 1) Stays) (omega arith) p.most refl

      pub mark_goes : get_or m (j - 1) Stays ≡ Goes → Marking t next u m c xs n b (j - 1) i k
      mark_goes e =
          let l : Last m j Goes = rw e at last in
          let a : stayers m j ≡ stayers m (j - 1) = l.stayers_are ∙ append-nil (stayers m (j - 1)) in
          let d = l.marks_are in
          let v = p.markers in
          let w = p.most in
          record {
            table = p.table;
            lay = p.lay;
            size = p.size;
            rest = rw a at p.rest;
            rows = rw a at p.rows;
            markers = omega arith;
            behind = few_markers m (j - 1) k (omega arith) (omega arith);
            fit = p.fit;
            whole = p.whole;
            most = omega arith;
            room = p.room;
            few = p.few;
            numbers = p.numbers;
            keys = p.keys;
          }

      module _ (f : Fate) (e : get_or m (j - 1) Stays ≡ f) (left : unless_gone f f ≡ f ∷ []) where
        one_less : i ≡ suc (length (stayers m (j - 1)))
        one_less =
            let l = length-append (stayers m (j - 1)) (f ∷ []) in
            let q = ap length (rw (e, left) at last.stayers_are) in
            let r = p.rows in
            omega arith

        pub mark_row : 1 ≤ i
        mark_row = let q = one_less in omega arith

        pub mark_place : InBuffers (i - 1 + k) n b
        mark_place = let q = one_less in let r = p.room in let s = p.numbers in let o = p.keys in record { numbers = omega arith; block = omega arith }

        pub mark_behind : InBuffers (i - 1 + (k - 1) + 1) n b
        mark_behind = let q : i - 1 + (k - 1) + 1 ≡ i - 1 + k = omega arith in rw q mark_place

        -- what is to come, with the last row's part in front of what is done
        opened : carried_out t next (stayers m (j - 1)) (take (i - 1) p.table) ++ in_place f t (next + total marks (firsts m (j - 1))) (get_or p.table (i - 1) free)
            ++ drop (suc (i - 1 + k)) p.table
            ≡ padded c (carried_out t next (stayers m u) xs)
        opened =
            let l = one_less in
            let s = p.size in
            let r = p.room in
            let o : i + k ≡ suc (i - 1 + k) = omega arith in
            let a : stayers m j ≡ stayers m (j - 1) ++ (f ∷ []) =
            rw (e, left) at last.stayers_are in
            let d = carried_last t next (stayers m (j - 1)) f p.table (i - 1) i (omega arith) (omega arith) (omega arith) in
            rw (a, d, kept_marks, o) at p.rest

      pub mark_stays : (n' b' : List ℕ) → get_or m (j - 1) Stays ≡ Stays
          → Put (i - 1 + k) (take 8 (drop (8 * (i - 1)) n)) (take 64 (drop (64 * (i - 1)) b)) n b n' b' → Marking t next u m c xs n' b' (j - 1) (i - 1) k
      mark_stays n' b' g w =
          let x : Row = get_or p.table (i - 1) free in
          let l = one_less Stays g refl in
          let s = p.size in
          let r = p.room in
          let q = g in
          let d = rw q at last.marks_are in
          let v = p.markers in
          let y = p.most in
          let z = length-set p.table (i - 1 + k) x in
          let o = rw append_snoc at (opened Stays g refl) in
          let lay' = lay_set p.lay (i - 1 + k) x (take 8 (drop (8 * (i - 1)) n)) (take 64 (drop (64 * (i - 1)) b)) n' b' (omega arith)
          (lay_row p.lay (i - 1) (omega arith)) (lay_block p.lay (i - 1) (omega arith)) w in
          record {
            table = set p.table (i - 1 + k) x;
            lay = lay';
            size = z ∙ s;
            rest = rw (take-set-le (i - 1) p.table (i - 1 + k) x (omega arith), drop_set p.table (i - 1 + k) x (omega arith)) o;
            rows = omega arith;
            markers = omega arith;
            behind = few_markers m (j - 1) k (omega arith) (omega arith);
            fit = p.fit;
            whole = p.whole;
            most = omega arith;
            room = omega arith;
            few = p.few;
            numbers = let a = lay_numbers lay' in omega arith;
            keys = let a = lay_keys lay' in omega arith;
          }

      pub mark_gains : (n' b' : List ℕ) → get_or m (j - 1) Stays ≡ Gains
          → Put (i - 1 + (k - 1)) (numbers_of_row (marker t (next + (k - 1)) []) ++ take 8 (drop (8 * (i - 1)) n)) (take 64 (drop (64 * (i - 1)) b) ++ take 64 (drop (64 * (i - 1)) b)) n b n' b'
          → Marking t next u m c xs n' b' (j - 1) (i - 1) (k - 1)
      mark_gains n' b' g w =
          let x : Row = get_or p.table (i - 1) free in
          let mk : Row = marker t (next + (k - 1)) x.key in
          let two : List Row = mk ∷ x ∷ [] in
          let T : List Row = take (i - 1 + (k - 1)) p.table ++ two ++ drop (i - 1 + (k - 1) + 2) p.table in
          let l = one_less Gains g refl in
          let s = p.size in
          let r = p.room in
          let q = g in
          let d = rw q at last.marks_are in
          let v = p.markers in
          let y = p.most in
          let up : suc (i - 1 + k) ≡ i - 1 + (k - 1) + 2 = omega arith in
          let now : next + total marks (firsts m (j - 1)) ≡ next + (k - 1) = omega arith in
          let o = rw (now, up, append_assoc) at (opened Gains g refl) in
          let lay' = lay_put p.lay (i - 1 + (k - 1)) two _ _ n' b' (omega arith)
          (rw (lay_row p.lay (i - 1) (omega arith)) refl)
          (rw (lay_block p.lay (i - 1) (omega arith), append-nil) refl) w in
          let h₁ = length-take-le (i - 1 + (k - 1)) p.table (omega arith) in
          let f : take (i - 1) T ≡ take (i - 1) p.table =
          rw (append_assoc, take-append-le (i - 1) (take (i - 1 + (k - 1)) p.table) (two ++ drop (i - 1 + (k - 1) + 2) p.table) (omega arith)) (take-take (i - 1) (i - 1 + (k - 1)) p.table (omega arith)) in
          let f₂ : drop (i - 1 + (k - 1)) T ≡ two ++ drop (i - 1 + (k - 1) + 2) p.table =
          rw append_assoc (drop_at (take (i - 1 + (k - 1)) p.table) (two ++ drop (i - 1 + (k - 1) + 2) p.table) (i - 1 + (k - 1)) h₁) in
          let z : length T ≡ c = simp (length-append, length-take-le (i - 1 + (k - 1)) p.table (omega arith), length-drop) (omega arith) in
          record {
            table = T;
            lay = lay';
            size = z;
            rest = rw (f, f₂) o;
            rows = omega arith;
            markers = omega arith;
            behind = few_markers m (j - 1) (k - 1) (omega arith) (omega arith);
            fit = p.fit;
            whole = p.whole;
            most = omega arith;
            room = omega arith;
            few = let a = p.few in omega arith;
            numbers = let a = lay_numbers lay' in omega arith;
            keys = let a = lay_keys lay' in omega arith;
          }

-- The fate in front of the place where the pass stands.
pub mark_read : {A : Type 0} (fate_in : A → Fate) (fs : List A) (t next u c : ℕ) (xs : List Row) (n b : List ℕ) (j i k : ℕ) (r : A) (f v : Fate) → Marking t next u (map fate_in fs) c xs n b j i k → 0 < k
    → r ≡ get_or fs (j - 1) r → f ≡ fate_in r → f ≡ v → get_or (map fate_in fs) (j - 1) Stays ≡ v
mark_read fate_in fs t next u c xs n b j i k r f v p h g e d = read_fate fate_in fs (j - 1) r f e g (omega (arith, p.most, p.behind, h, length-map fs fate_in)) ∙ d

pub mark_start : (t next u : ℕ) (m : List Fate) (n b : List ℕ) (left added : ℕ) → Thinned n b left u m added next
    → Marking t next u m (capacity b) (rows_of n b left) n b u left added
mark_start t next u m n b left added h =
    marking_start t next u m (capacity b) (rows_of n b left) n b left added (rows_length n b left) h.holds h.each h.rest h.markers h.room h.numbers

pub ruleset mark_cases = (refl, mark_start, mark_goes, mark_row, mark_place, mark_behind, mark_stays, mark_gains, mark_end, mark_read)
