-- Laws of writing a page: its lines one behind the other, and all of them behind the first line.
use Prim.Native.Nat.{ℕ, ◌+◌, ◌-◌, ◌*◌, ◌≤◌, ◌<◌}
use mathlib.Core.Path.{◌≡◌, refl, sym, ◌∙◌, ap}
use mathlib.Core.List.{List, [], ◌∷◌, ◌++◌, append_assoc, append-nil}
use native.Mathlib.Omega.{arith}
use lib.ListN.{length, take, drop, length-take, length-drop}
use Rattle.buffers.specs.Ranges.{Within, Span}
use Rattle.buffers.specs.Writes.{Wrote}
use Rattle.buffers.proofs.Writes.{wrote_both, wrote_wider, wrote_nothing}
use Rattle.text.specs.Printing.{digits}
use Rattle.calendar.specs.Calendar.{latest}
use Rattle.model.specs.Rows.{Row}
use Rattle.model.specs.Requests.{page}
use Rattle.model.specs.Refusals.{row_room, page_room}
use Rattle.model.specs.Pages.{page_rows}
use mathlib.Core.Bool.{true}
use Rattle.model.specs.Rows.{ordered}
use Rattle.table.specs.Contents.{row_no, numbers_in_row}
use Rattle.table.specs.Places.{row_from}
use Rattle.table.specs.declared.Numbers.{Numbers}
use Rattle.search.specs.Places.{key_place}
use Rattle.answers.specs.Text.{longest_answer, ok_text, row_text, row_texts, page_text}
use Rattle.listing.specs.Places.{page_start, page_end, Ends}
use Rattle.listing.specs.Ready.{Listable}
use Rattle.listing.proofs.Runs.{run, run_next, page_run}

-- ## The lines

texts_append : (xs ys : List Row) → row_texts (xs ++ ys) ≡ row_texts xs ++ row_texts ys
texts_append [] ys = refl
texts_append (x ∷ xs) ys = ap (λ (l : List ℕ). row_text x ++ l) (texts_append xs ys) ∙ sym (append_assoc (row_text x) (row_texts xs) (row_texts ys))

-- the text of the rows from start on and before i
abbrev pub lines_from : List Row → ℕ → ℕ → List ℕ
lines_from xs start i = row_texts (run xs start i)

-- A line more at the end.
lines_next : (xs : List Row) (start i : ℕ) → start ≤ i → i < length xs → lines_from xs start i ++ row_text (row_no xs i) ≡ lines_from xs start (i + 1)
lines_next xs start i h l = sym (rw (run_next xs start i h l) (texts_append (run xs start i) (row_no xs i ∷ []) ∙ rw append-nil))

-- what holds at each turn: the lines of the rows from start on and before i are written
pub record Lines (xs : List Row) (start end : ℕ) (out : List ℕ) (place : ℕ) (now : List ℕ) (at i : ℕ) : Type 0 where
  pub listable : Listable xs
  pub span : Span start i end
  pub top : end ≤ length xs
  pub room : place + row_room * (end - start) ≤ length out
  pub wrote : Wrote out place (lines_from xs start i) (row_room * (i - start)) now at

module _ (xs : List Row) (start end : ℕ) (out : List ℕ) (place : ℕ) where
  pub lines_start : Listable xs → Span start end (length xs) → place + row_room * (end - start) ≤ length out → Lines xs start end out place out place start
  lines_start l s r =
      let none : start - start ≡ 0 = omega arith in
      record {
        listable = l;
        span = record { from = omega arith; to = s.from };
        top = s.to;
        room = r;
        wrote = rw none (wrote_nothing out place);
      }

  module _ (now : List ℕ) (at i : ℕ) (w : Lines xs start end out place now at i) where
    pub lines_end : end ≤ i → Wrote out place (lines_from xs start end) (row_room * (end - start)) now at
    lines_end h = let q : i ≡ end = omega (arith, w.span.to) in rw q at w.wrote

    module _ (h : i < end) where
      pub line_there : i < length xs
      line_there = omega (arith, w.top)

      module _ (key : List ℕ) (f : key ≡ (row_no xs i).key) (n : Numbers) (e : n ≡ numbers_in_row (row_no xs i)) where
        pub line_created : n.created ≤ latest
        line_created = rw e (w.listable.dated i line_there).created

        pub line_until : n.until ≤ latest
        line_until = rw e (w.listable.dated i line_there).until

        pub lines_more : (exit : List ℕ) (r : ℕ) → Wrote now at (row_text (row_from n key)) row_room exit r → Lines xs start end out place exit r (i + 1)
        lines_more exit r y =
            let row : row_from n key ≡ row_no xs i = rw (e, f) in
            let written : List ℕ = lines_from xs start i in
            let from = w.span.from in
            let text = ap (λ (x : Row). written ++ row_text x) row ∙ lines_next xs start i from line_there in
            record {
              listable = w.listable;
              span = record { from = omega arith; to = omega arith };
              top = w.top;
              room = w.room;
              wrote = wrote_wider (rw text at
                  (wrote_both out place written (row_room * (i - start)) now at (row_text (row_from n key)) row_room exit r (omega (arith, w.room)) w.wrote y))
                  (omega arith);
            }

pub ruleset lines_cases = (lines_start, lines_end, line_there, line_created, line_until)

-- ## A page

-- A page's start is not in front of the prefix's place.
pub start_span : (p k : List ℕ) (v u : ℕ) (xs : List Row) (start : ℕ) → Within start (page_start p k v xs) u → Span (key_place p xs) start u
unfolding page_start
start_span p k v u xs start s = record { from = omega (arith, s.is); to = s.most }

module _ (xs : List Row) (p k : List ℕ) (v count start end : ℕ) (o : ordered xs ≡ true) (s : Within start (page_start p k v xs) (length xs))
    (e : Ends start count end (page_end p start count xs) (length xs)) where
  page_rows_lem : take (end - start) (drop start xs) ≡ page_rows (page p k v count) xs
  page_rows_lem = page_run p k v xs o count start end s.is e.is

  page_length : end - start ≡ length (page_rows (page p k v count) xs)
  page_length = rw (sym page_rows_lem) (omega (arith, length-take (end - start) (drop start xs), length-drop start xs, e.to))

  pub page_wrote : (out m : List ℕ) (r : ℕ) (exit : List ℕ) (q : ℕ) → Wrote out 0 (ok_text (digits (end - start) ∷ [])) longest_answer m r
      → Wrote m r (lines_from xs start end) (row_room * (end - start)) exit q
      → Wrote out 0 (page_text (page_rows (page p k v count) xs)) (page_room count) exit q
  unfolding page_text
  page_wrote out m r exit q x y =
      let text : ok_text (digits (end - start) ∷ []) ++ lines_from xs start end ≡ page_text (page_rows (page p k v count) xs) = rw (page_rows_lem, page_length) in
      wrote_wider (rw text at
      (wrote_both out 0 (ok_text (digits (end - start) ∷ [])) longest_answer m r (lines_from xs start end) (row_room * (end - start)) exit q (omega arith) x y))
      (omega (arith, e.few))

pub ruleset page_cases = (start_span, page_wrote)
