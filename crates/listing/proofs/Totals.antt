-- Laws of REPORT's totals: a row more, and all rows of a run.
use Prim.Native.Nat.{ℕ, ◌+◌, ◌-◌, ◌≤◌, ◌<◌}
use mathlib.Core.Path.{◌≡◌, sym, ◌∙◌, ap, ap₂, subst}
use mathlib.Core.Logic.{inl, inr}
use mathlib.Core.Bool.{Bool, true, false}
use mathlib.Core.List.{List, [], ◌∷◌, ◌++◌}
use native.Mathlib.Omega.{arith}
use native.Mathlib.Nat.{add-zero}
use lib.Dec.{eqb}
use lib.ListN.{length, length-append}
use borrow.Author.Tests.{eq-eqb, ne_eqb, eqb-true, eqb-false}
use Rattle.buffers.specs.Choices.{pick}
use Rattle.buffers.specs.Lists.{keep, total}
use Rattle.buffers.specs.Ranges.{Within, Span}
use Rattle.buffers.specs.Writes.{Wrote}
use Rattle.buffers.proofs.Tests.{either}
use Rattle.buffers.proofs.Lists.{keep_append, total_append}
use Rattle.model.specs.Rows.{Row, ordered, is_data, is_marker, largest_size}
use Rattle.model.specs.Locks.{locked}
use Rattle.model.specs.Reports as model
use Rattle.model.specs.Reports.{is_locked_data, totals, totals_of}
use Rattle.model.specs.Pages.{matches}
use Rattle.model.specs.Answers.{reported}
use Rattle.table.specs.Contents.{row_no, numbers_in_row}
use Rattle.table.specs.Places.{row_from}
use Rattle.table.specs.declared.Numbers.{Numbers}
use Rattle.search.specs.Places.{key_place}
use Rattle.answers.specs.declared.Totals.{Totals}
use Rattle.answers.specs.Text.{longest_answer, answer_text}
use Rattle.answers.specs.Meaning.{totals_mean}
use Rattle.listing.specs.Places.{page_end, Ends}
use Rattle.listing.specs.Totals.{with_row, Bounded, Countable}
use Rattle.listing.proofs.Runs.{run, run_next, prefix_run}

-- ## A row more

module _ (t : Totals) (n : Numbers) (instant : ℕ) where
  pub data_more : (d : Bool) → ((k : List ℕ) → d ≡ is_data (row_from n k)) → d ≡ true → (b : Bool) → ((k : List ℕ) → b ≡ locked instant false (row_from n k)) → (l : ℕ) → l ≡ pick b 1 0 → (k : List ℕ)
      → totals_mean (record { versions = t.versions + 1; markers = t.markers; size = t.size + n.size; locked = t.locked + l }) ≡ with_row instant (row_from n k) (totals_mean t)
  data_more d f e b g l h k =
      let q : n.kind ≡ 1 = eqb-true n.kind 1 (sym (f k) ∙ e) in
      rw (h, g k, eq-eqb n.kind 1 q, ne_eqb n.kind 2 (λ z. omega arith), add-zero)

  pub marker_more : (d : Bool) → ((k : List ℕ) → d ≡ is_data (row_from n k)) → d ≡ false → ((n.kind ≡ 1 → ⊥) → n.kind ≡ 2) → (k : List ℕ)
      → totals_mean (record { versions = t.versions; markers = t.markers + 1; size = t.size; locked = t.locked }) ≡ with_row instant (row_from n k) (totals_mean t)
  marker_more d f e m k =
      let q : eqb n.kind 1 ≡ false = sym (f k) ∙ e in
      rw (q, eq-eqb n.kind 2 (m (eqb-false n.kind 1 q))) (simp add-zero)

-- Of a run with a row more.
count_more : (p : Row → Bool) (xs : List Row) (x : Row) → length (keep p (xs ++ x ∷ [])) ≡ length (keep p xs) + pick (p x) 1 0
count_more p xs x =
    elim (either (p x)) [
      | inl t ↦ rw (keep_append p xs (x ∷ []), t) (length-append (keep p xs) (x ∷ []))
      | inr t ↦ rw (keep_append p xs (x ∷ []), t) (length-append (keep p xs) [])
    ]

size_more : (xs : List Row) (x : Row) → total (λ y. y.size) (keep is_data (xs ++ x ∷ [])) ≡ total (λ y. y.size) (keep is_data xs) + pick (is_data x) x.size 0
size_more xs x =
    elim (either (is_data x)) [
      | inl t ↦ rw (keep_append is_data xs (x ∷ []), t) (total_append (λ y. y.size) (keep is_data xs) (x ∷ []) ∙ rw add-zero)
      | inr t ↦ rw (keep_append is_data xs (x ∷ []), t) (total_append (λ y. y.size) (keep is_data xs) [])
    ]

totals_more : (now : ℕ) (xs : List Row) (x : Row) → totals now (xs ++ x ∷ []) ≡ with_row now x (totals now xs)
totals_more now xs x = rw (count_more is_data xs x, count_more is_marker xs x, size_more xs x, count_more (is_locked_data now) xs x)

-- ## How large they get

pick_most : (b : Bool) (m n : ℕ) → m ≤ n → pick b m 0 ≤ n
pick_most true m n h = h
pick_most false m n h = omega arith

-- A row more makes each number at most so much larger.
bounded_more : (c : ℕ) (t r : Totals) (now : ℕ) (x : Row) → Bounded c t → x.size ≤ largest_size → totals_mean r ≡ with_row now x (totals_mean t) → Bounded (c + 1) r
bounded_more c t r now x b s e =
    let versions_are : r.versions ≡ t.versions + pick (is_data x) 1 0 = ap (λ (y : model.Totals). y.versions) e in
    let markers_are : r.markers ≡ t.markers + pick (is_marker x) 1 0 = ap (λ (y : model.Totals). y.markers) e in
    let size_is : r.size ≡ t.size + pick (is_data x) x.size 0 = ap (λ (y : model.Totals). y.size) e in
    let locked_are : r.locked ≡ t.locked + pick (is_locked_data now x) 1 0 = ap (λ (y : model.Totals). y.locked) e in
    record {
      versions = omega (arith, b.versions, pick_most (is_data x) 1 1 (omega arith));
      markers = omega (arith, b.markers, pick_most (is_marker x) 1 1 (omega arith));
      size = omega (arith, b.size, pick_most (is_data x) x.size largest_size s);
      locked = omega (arith, b.locked, pick_most (is_locked_data now x) 1 1 (omega arith));
    }

-- ## All rows of a run

-- what holds at each turn: the rows from start on and before i are counted
pub record Totalling (xs : List Row) (start end instant : ℕ) (t : Totals) (i : ℕ) : Type 0 where
  pub countable : Countable xs end
  pub span : Span start i end
  pub bounded : Bounded (i - start) t
  pub is : totals_mean t ≡ totals instant (run xs start i)

module _ (xs : List Row) (start end instant : ℕ) where
  pub totalling_start : Countable xs end → start ≤ end → Totalling xs start end instant (record { versions = 0; markers = 0; size = 0; locked = 0 }) start
  totalling_start c s =
      let none : start - start ≡ 0 = omega arith in
      record {
        countable = c;
        span = record { from = omega arith; to = s };
        bounded = record { versions = omega arith; markers = omega arith; size = omega arith; locked = omega arith };
        is = rw none;
      }

  module _ (t : Totals) (i : ℕ) (w : Totalling xs start end instant t i) where
    pub totalling_end : end ≤ i → totals_mean t ≡ totals instant (run xs start end)
    totalling_end h = let q : i ≡ end = omega (arith, w.span.to) in rw q at w.is

    module _ (h : i < end) where
      pub row_bounded : Bounded 1024 t
      row_bounded =
          let b = w.bounded in
          let few = w.countable.few in
          record { versions = omega (arith, b.versions); markers = omega (arith, b.markers); size = omega (arith, b.size); locked = omega (arith, b.locked) }

      pub row_within : i < length xs
      row_within = omega (arith, w.countable.there)

      module _ (n : Numbers) (e : n ≡ numbers_in_row (row_no xs i)) where
        pub row_sized : n.size ≤ largest_size
        row_sized = rw e (w.countable.sized i h)

        pub row_kind : (n.kind ≡ 1 → ⊥) → n.kind ≡ 2
        row_kind = rw e (w.countable.kinds i h)

        pub totalling_more : (r : Totals) → ((k : List ℕ) → totals_mean r ≡ with_row instant (row_from n k) (totals_mean t)) → Totalling xs start end instant r (i + 1)
        totalling_more r f =
            let one_more : i + 1 - start ≡ i - start + 1 = omega (arith, w.span.from) in
            record {
              countable = w.countable;
              span = record { from = omega (arith, w.span.from); to = omega arith };
              bounded = rw one_more (bounded_more (i - start) t r instant (row_from n []) w.bounded row_sized (f []));
              is =
                  let row : row_from n (row_no xs i).key ≡ row_no xs i = rw e in
                  f (row_no xs i).key ∙ ap₂ (with_row instant) row w.is ∙ sym (totals_more instant (run xs start i) (row_no xs i))
                  ∙ ap (totals instant) (sym (run_next xs start i w.span.from row_within));
            }

pub ruleset totalling_cases = (totalling_start, totalling_end, row_bounded, row_within, row_sized, row_kind)

-- ## The rows of a prefix

-- As many of them as a page may have can be counted.
pub run_countable : (xs : List Row) (start count end place : ℕ) → Countable xs (length xs) → Ends start count end place (length xs) → Countable xs end
run_countable xs start count end place c e =
    let to = e.to in
    record { there = to; few = omega (arith, c.few); sized = λ i h. c.sized i (omega arith); kinds = λ i h. c.kinds i (omega arith) }

-- All of them come to the report.
pub report_wrote : (xs : List Row) (p : List ℕ) (u start end : ℕ) (instant : ℕ) (t : Totals) (out exit : List ℕ) (r : ℕ) → ordered xs ≡ true → u ≡ length xs
    → Within start (key_place p xs) (length xs) → Ends start u end (page_end p start u xs) (length xs) → totals_mean t ≡ totals instant (run xs start end)
    → Wrote out 0 (answer_text (reported (totals_mean t))) longest_answer exit r → Wrote out 0 (answer_text (reported (totals_of p instant xs))) longest_answer exit r
report_wrote xs p u start end instant t out exit r o l s e f w =
    let all_rows : run xs start end ≡ keep (matches p) xs = prefix_run p xs u start end (sym l) o s.is e.is in
    let P : model.Totals → Type 0 = λ z. Wrote out 0 (answer_text (reported z)) longest_answer exit r in
    subst P (f ∙ ap (totals instant) all_rows) w

pub ruleset report_cases = (run_countable, report_wrote)
