-- The rows of one key: where they end in a table in order, and storing their fates.
use Rattle.std.proofs.Common.{◌≡◌, ℕ, zero, suc, ◌+◌, ◌-◌, ◌*◌, ◌<◌, ◌≤◌, Bool, true, false, eqb, ltb, List, length, take, drop, set, sym, refl, ap, ◌∙◌, inl, inr, arith, length-set, get_or-set_other, get_or-set_same, ltb-false, ltb-true, ne_eqb, eqb-true, ◌^◌, w64, Fits, map}
use Rattle.std.proofs.lemmas.List.{map-set, length-map}
use denote.Enum.Bare.{sameb}
use mir.Val.{bool_byte}
use borrow.Author.Tests.{eqb-false}
use Rattle.buffers.specs.Lists.{same}
use Rattle.buffers.proofs.Lists.{same_path, same_refl}
use Rattle.buffers.proofs.Choices.{pick_ways}
use Rattle.buffers.proofs.Parts.{part_cut}
use Rattle.buffers.proofs.Tests.{either, clash}
use Rattle.blocks.specs.Blocks.{key_in, is_block}
use Rattle.model.specs.contracts.Fate.{the_type}
use Rattle.model.specs.declared.Fate.{Fate}
use Rattle.model.specs.declared.Fate.TheVariants.{Stays, Goes, Gains}
use Rattle.model.specs.Rows.{Row, is_data, before, ordered}
use Rattle.model.specs.Locks.{locked}
use Rattle.model.specs.Sweep.{marks, removes}
use Rattle.model.proofs.Order.{before_or, before_irrefl, ordered_at}
use Rattle.model.proofs.Comparisons.{ordered_back}
use Rattle.search.specs.Keys.{rank}
use Rattle.search.proofs.Ranking.{key_rank}
use Rattle.table.specs.Contents.{Contents, contents, WholeBlocks, spare_row, row_no}
use Rattle.table.specs.Searching.{Searchable}
use Rattle.table.proofs.Held.{rows_length, row_at_lem}
use Rattle.lifecycle.specs.declared.Limits.{Limits}
use Rattle.lifecycle.specs.Days.{over}
use Rattle.lifecycle.proofs.Fates.{goes_is, gains_is, counted_none, counted_more, counted_first}
use Rattle.lifecycle.specs.Judging.{current_by, noncurrent_by, same_key, older_fate, version_fate, Between, KeyEnding, KeyEnds, Stored, CountedOn}

-- ## Two keys

module _ (n b : List ℕ) (u : ℕ) (t : Contents) (e : contents n b u ≡ t) (s : Searchable n b u) (i : ℕ) (h : i < length t.rows) where
  used_there : i < u
  used_there = let l : length t.rows ≡ u = sym (ap (λ (v : Contents). length v.rows) e) ∙ rows_length n b u in omega (arith, h)

  pub block_fits : 64 * i + 64 ≤ length b
  block_fits = omega (arith, used_there, s.keys_have_room)

  pub word_fits : 64 * i + 1 + 8 ≤ length b
  word_fits = omega (arith, used_there, s.keys_have_room)

  pub place_fits : length b < 2 ^ 64 → Fits w64 (64 * i)
  place_fits l = record { fits = omega (arith, used_there, s.keys_have_room) }

  pub behind_fits : length b < 2 ^ 64 → Fits w64 (64 * i + 64)
  behind_fits l = record { fits = omega (arith, used_there, s.keys_have_room) }

  whole_there : WholeBlocks t → is_block (take 64 (drop (64 * i) b)) ≡ true
  whole_there w = ap (λ (v : Contents). is_block (take 64 (drop (64 * i) v.keys))) e ∙ w.whole i h

  pub there_block : WholeBlocks t → is_block (take (64 * i + 64 - 64 * i) (drop (64 * i) b)) ≡ true
  there_block w = rw (part_cut b (64 * i) 64) (whole_there w)

  block_key : key_in (take (64 * i + 64 - 64 * i) (drop (64 * i) b)) ≡ (row_no t.rows i).key
  block_key = rw (part_cut b (64 * i) 64) (ap (λ (x : Row). x.key) (row_at_lem n b u i spare_row used_there) ∙ ap (λ (v : Contents). (row_no v.rows i).key) e)

  pub key_rank_as : WholeBlocks t → (x : ℕ) → x ≡ rank 8 (drop (64 * i + 1) b) → x ≡ rank 8 (row_no t.rows i).key
  key_rank_as w x f = f ∙ key_rank b i (whole_there w) ∙ ap (λ (l : List ℕ). rank 8 (key_in l)) (sym (part_cut b (64 * i) 64)) ∙ ap (rank 8) block_key

pub same_at : (n b : List ℕ) (u : ℕ) (t : Contents) → contents n b u ≡ t → Searchable n b u → (i j : ℕ) → i < length t.rows → j < length t.rows → (r : Bool)
    → r ≡ same (key_in (take (64 * i + 64 - 64 * i) (drop (64 * i) b))) (key_in (take (64 * j + 64 - 64 * j) (drop (64 * j) b))) → r ≡ same (row_no t.rows i).key (row_no t.rows j).key
same_at n b u t e s i j h g r f = f ∙ rw (block_key n b u t e s i h, block_key n b u t e s j g)

pub ruleset same_cases = (block_fits, word_fits, place_fits, behind_fits, there_block, key_rank_as, same_at)

pub same_none : (xs : List Row) → same_key xs 0 ≡ false
unfolding same_key
same_none xs = refl

pub same_some : (xs : List Row) (i : ℕ) → same_key xs (suc i) ≡ same (row_no xs i).key (row_no xs (suc i)).key
unfolding same_key
same_some xs i =
    let e : suc i - 1 ≡ i = omega arith in
    simp (ne_eqb (suc i) 0 (λ h. omega arith), e)

-- ## Where the rows of a key end

neither : (x y : List ℕ) → before x y ≡ false → before y x ≡ false → x ≡ y
neither x y p q =
    elim (before_or x y p) [
      | inl a ↦ absurd (clash (before y x) a q)
      | inr a ↦ sym (same_path y x a)
    ]

module _ (xs : List Row) (o : ordered xs ≡ true) where
  -- No key stands before an earlier row's.
  sorted : (i j : ℕ) → i ≤ j → j < length xs → before (row_no xs j).key (row_no xs i).key ≡ false
  sorted i j l g =
      elim (either (eqb i j)) [
        | inl e ↦ rw (eqb-true i j e) (before_irrefl (row_no xs j).key)
        | inr e ↦ let k : i < j = omega (arith, eqb-false i j e) in ordered_back (row_no xs i) (row_no xs j) (ordered_at xs i j spare_row o k g)
      ]

  module _ (at : ℕ) where
    first_start : at < length xs → KeyEnding xs at (at + 1) (length xs)
    first_start g =
        record {
          more = omega arith;
          order = omega arith;
          top = omega arith;
          alike = λ i p q. let e : i ≡ at = omega arith in ap (λ (k : ℕ). (row_no xs k).key) e;
          other = λ p. absurd (omega arith);
        }

    module _ (low high : ℕ) (h : KeyEnding xs at low high) where
      pub there_own : low < high → at < length xs
      there_own g = omega (arith, h.more, h.top)

      module _ (m : ℕ) (g : Between low high m) where
        pub there_other : m < length xs
        there_other = omega (arith, g.to, h.top)

        module _ (r : Bool) (e : r ≡ same (row_no xs at).key (row_no xs m).key) where
          pub end_later : r ≡ true → KeyEnding xs at (m + 1) high
          end_later t =
              let q : (row_no xs at).key ≡ (row_no xs m).key = same_path (row_no xs at).key (row_no xs m).key (sym e ∙ t) in
              record {
                more = omega (arith, h.more, g.from);
                order = omega (arith, g.to);
                top = h.top;
                alike = λ i p k. neither (row_no xs i).key (row_no xs at).key (sorted at i p (omega (arith, g.to, h.top))) (rw q (sorted i m (omega arith) (omega (arith, g.to, h.top))));
                other = h.other;
              }

          pub end_earlier : r ≡ false → KeyEnding xs at low m
          end_earlier t =
              record {
                more = h.more;
                order = g.from;
                top = omega (arith, g.to, h.top);
                alike = h.alike;
                other = λ p q. clash (same (row_no xs at).key (row_no xs m).key) (rw q (same_refl (row_no xs at).key)) (sym e ∙ t);
              }

      pub end_found : high ≤ low → KeyEnds xs at low
      end_found g =
          record {
            more = h.more;
            most = omega (arith, h.order, h.top);
            alike = alike_to;
            other = other_at low refl;
          }
        where
          alike_to : (i : ℕ) → at < i → i < low → same_key xs i ≡ true
          alike_to zero p q = absurd (omega arith)
          alike_to (suc i) p q = same_some xs i ∙ rw (h.alike i (omega arith) (omega arith), h.alike (suc i) (omega arith) q) (same_refl (row_no xs at).key)

          other_at : (l : ℕ) → l ≡ low → l < length xs → same_key xs l ≡ false
          other_at zero e p = same_none xs
          other_at (suc i) e p =
              let z : suc i ≡ high = omega (arith, h.order) in
              let d : (row_no xs i).key ≡ (row_no xs at).key = h.alike i (omega (arith, h.more)) (omega arith) in
              elim (either (same (row_no xs i).key (row_no xs (suc i)).key)) [
                | inl s ↦ absurd (h.other (omega arith) (ap (λ (k : ℕ). (row_no xs k).key) (sym z) ∙ sym (same_path (row_no xs i).key (row_no xs (suc i)).key s) ∙ d))
                | inr s ↦ same_some xs i ∙ s
              ]

    -- ## Row by row

    module _ (next : ℕ) (h : KeyEnding xs at next (length xs)) (g : next < length xs) where
      next_between : Between next (length xs) next
      next_between = record { from = omega arith; to = omega arith }

      module _ (r : Bool) (e : r ≡ same (row_no xs at).key (row_no xs next).key) where
        pub next_same : r ≡ true → KeyEnding xs at (next + 1) (length xs)
        next_same t = end_later next (length xs) h next next_between r e t

        pub next_other : r ≡ false → KeyEnds xs at next
        next_other t = end_found next next (end_earlier next (length xs) h next next_between r e t) (omega arith)

    -- ## The first row

    module _ (g : at < length xs) where
      pub end_last : length xs ≤ at + 1 → KeyEnds xs at (at + 1)
      end_last e = end_found (at + 1) (length xs) (first_start g) (omega arith)

      module _ (n : at + 1 < length xs) (r : Bool) (e : r ≡ same (row_no xs at).key (row_no xs (at + 1)).key) where
        pub second_same : r ≡ true → KeyEnding xs at (at + 2) (length xs)
        second_same t =
            let z : at + 1 + 1 ≡ at + 2 = omega arith in
            rw z at (next_same (at + 1) (first_start g) n r e t)

        pub second_other : r ≡ false → KeyEnds xs at (at + 1)
        second_other t = next_other (at + 1) (first_start g) n r e t

pub ruleset end_cases = (there_own, there_other, end_later, end_earlier, end_found)

pub ruleset next_cases = (next_same, next_other)

pub ruleset first_cases = (end_last, second_same, second_other)

-- ## Storing fates one after the other

pub stored_none : {A : Type 0} (cell : Fate → A) (f : ℕ → Fate) (i : ℕ) (m : List A) → Stored cell f i i m m
stored_none cell f i m = record { long = refl; early = λ _ _. refl; inside = λ j p q. absurd (omega arith); late = λ _ _. refl }

pub stored_next : {A : Type 0} (cell : Fate → A) (f : ℕ → Fate) (from i : ℕ) (v : A) (entry m : List A) → Stored cell f from i entry m → from ≤ i → i < length m → v ≡ cell (f i) → Stored cell f from (i + 1) entry (set m i v)
stored_next cell f from i v entry m h l g e =
    record {
      long = length-set m i v ∙ h.long;
      early = λ j p. get_or-set_other m i j v (cell Stays) (λ q. omega arith) ∙ h.early j p;
      inside = λ j p q. elim (either (eqb j i)) [
        | inl s ↦ let y : j ≡ i = eqb-true j i s in rw (y, get_or-set_same m i v (cell Stays) g) e
        | inr s ↦ let y : j ≡ i → ⊥ = eqb-false j i s in rw (get_or-set_other m i j v (cell Stays) y) (h.inside j p (omega (arith, y)))
      ];
      late = λ j p. get_or-set_other m i j v (cell Stays) (λ q. omega arith) ∙ h.late j (omega arith);
    }

pub stored_more : {A : Type 0} (cell : Fate → A) (f : ℕ → Fate) (i j : ℕ) (entry m exit : List A) → Stored cell f 0 i entry m → i ≤ j → Stored cell f i j m exit → Stored cell f 0 j entry exit
stored_more cell f i j entry m exit h l g =
    record {
      long = g.long ∙ h.long;
      early = λ k p. absurd (omega arith);
      inside = λ k p q. elim (either (ltb k i)) [
        | inl s ↦ let y = ltb-true k i s in g.early k y ∙ h.inside k p y
        | inr s ↦ g.inside k (ltb-false k i s) q
      ];
      late = λ k p. g.late k p ∙ h.late k (omega arith);
    }

-- ## Rows that aren't current

older_marks : (xs : List Row) (d t u i : ℕ) → marks (older_fate xs d t u i) ≡ 0
unfolding noncurrent_by
older_marks xs d t u i =
    pick_ways (λ f. marks f ≡ 0) (over d (row_no xs (i - 1)).created u) (λ _. pick_ways (λ f. marks f ≡ 0) (locked t false (row_no xs i)) (λ _. refl) (λ _. refl)) (λ _. refl)

-- what holds at each turn
pub record JudgingOlder {A : Type 0} (cell : Fate → A) (fate_in : A → Fate) (xs : List Row) (from to d t u : ℕ) (entry m : List A) (i removed : ℕ) : Type 0 where
  pub low : from ≤ i
  pub top : i ≤ to
  pub long : length m ≡ length entry
  pub stored : Stored cell (older_fate xs d t u) from i entry m
  pub counts : CountedOn (map fate_in entry) (map fate_in m) from i removed 0

module _ {A : Type 0} (cell : Fate → A) (fate_in : A → Fate) (xs : List Row) (from to d t u : ℕ) (entry : List A) where
  pub older_start : from ≤ to → JudgingOlder cell fate_in xs from to d t u entry entry from 0
  older_start h =
      record { low = omega arith; top = h; long = refl; stored = stored_none cell (older_fate xs d t u) from entry; counts = counted_none from (map fate_in entry) }

  module _ (m : List A) (i c : ℕ) (h : JudgingOlder cell fate_in xs from to d t u entry m i c) where
    pub older_room : i < to → to ≤ length entry → i < length m
    older_room g l = omega (arith, h.long)

    pub older_later : 1 ≤ from → 1 ≤ i
    older_later l = omega (arith, h.low)

    pub older_step : ((f : Fate) → fate_in (cell f) ≡ f) → (v : Fate) (w : A) (q : Bool) (r : ℕ) → i < to → to ≤ length entry → v ≡ older_fate xs d t u i → w ≡ cell v → q ≡ sameb the_type v Goes → r ≡ bool_byte q
        → JudgingOlder cell fate_in xs from to d t u entry (set m i w) (i + 1) (c + r)
    older_step back v w q r g l e y x s =
        record {
          low = omega (arith, h.low);
          top = omega arith;
          long = length-set m i w ∙ h.long;
          stored = stored_next cell (older_fate xs d t u) from i w entry m h.stored h.low (older_room g l) (y ∙ ap cell e);
          counts =
              let k : i < length (map fate_in m) = omega (arith, length-map m fate_in, older_room g l) in
              rw (map-set fate_in m i w, y, back v) (counted_more from i v (map fate_in entry) (map fate_in m) c 0 r 0 h.counts h.low k (s ∙ ap bool_byte x ∙ goes_is v) (sym (ap marks e ∙ older_marks xs d t u i)));
        }

    pub older_few : c ≤ i
    older_few = omega (arith, h.counts.few_gone)

    pub older_counted : to ≤ i → CountedOn (map fate_in entry) (map fate_in m) from to c 0
    older_counted g = let e : i ≡ to = omega (arith, h.top) in rw e at h.counts

    pub older_end : to ≤ i → Stored cell (older_fate xs d t u) from to entry m
    older_end g = let e : i ≡ to = omega (arith, h.top) in rw e at h.stored

pub ruleset older_cases = (older_start, older_room, older_later, older_step, older_few, older_counted, older_end)

-- ## All rows of a key

pub first_room : {A : Type 0} (from to : ℕ) (m : List A) → from < to → to ≤ length m → from < length m
first_room from to m h g = omega arith

pub older_fits : {A : Type 0} (to i : ℕ) (v : A) (m : List A) → to ≤ length m → to ≤ length (set m i v)
older_fits to i v m g = rw (length-set m i v) g

pub versions_stored : {A : Type 0} (cell : Fate → A) (xs : List Row) (from to : ℕ) (l : Limits) (t u : ℕ) (v : Fate) (w : A) (entry exit : List A) → from < to → to ≤ length entry → v ≡ current_by l.current u (row_no xs from) → w ≡ cell v
    → Stored cell (older_fate xs l.noncurrent t u) (from + 1) to (set entry from w) exit → Stored cell (version_fate xs l t u from) from to entry exit
versions_stored cell xs from to l t u v w entry exit g r e x s =
    record {
      long = s.long ∙ length-set entry from w;
      early = λ i p. s.early i (omega arith) ∙ get_or-set_other entry from i w (cell Stays) (λ q. omega arith);
      inside = λ i p q. elim (either (eqb i from)) [
        | inl o ↦
            let y : i ≡ from = eqb-true i from o in
            rw (o, y) (s.early from (omega arith) ∙ get_or-set_same entry from w (cell Stays) (omega arith) ∙ x ∙ ap cell e)
        | inr o ↦ rw o (s.inside i (omega (arith, eqb-false i from o)) q)
      ];
      late = λ i p. s.late i p ∙ get_or-set_other entry from i w (cell Stays) (λ q. omega arith);
    }

-- A current row never goes.
current_removes : (d u : ℕ) (x : Row) → removes (current_by d u x) ≡ 0
unfolding current_by
current_removes d u x = pick_ways (λ f. removes f ≡ 0) (is_data x) (λ _. pick_ways (λ f. removes f ≡ 0) (over d x.created u) (λ _. refl) (λ _. refl)) (λ _. refl)

pub versions_counted : {A : Type 0} (cell : Fate → A) (fate_in : A → Fate) → ((f : Fate) → fate_in (cell f) ≡ f) → (xs : List Row) (from to d u c r : ℕ) (q : Bool) (v : Fate) (w : A) (entry exit : List A) → v ≡ current_by d u (row_no xs from) → from < to
    → to ≤ length entry → q ≡ sameb the_type v Gains → r ≡ bool_byte q → w ≡ cell v → CountedOn (map fate_in (set entry from w)) (map fate_in exit) (from + 1) to c 0 → CountedOn (map fate_in entry) (map fate_in exit) from to c r
versions_counted cell fate_in back xs from to d u c r q v w entry exit e g l x s y h =
    counted_first from to v (map fate_in entry) (map fate_in exit) c r g (omega (arith, length-map entry fate_in)) (ap removes e ∙ current_removes d u (row_no xs from)) (s ∙ ap bool_byte x ∙ gains_is v)
    (rw (map-set fate_in entry from w, y, back v) at h)

pub ruleset version_cases = (first_room, older_fits, versions_stored, versions_counted)
