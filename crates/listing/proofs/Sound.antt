-- Sound rows can be listed and reported.
use Prim.Native.Nat.{ℕ, ◌≤◌, ◌<◌}
use mathlib.Core.Path.{◌≡◌, sym}
use mathlib.Core.Bool.{true}
use mathlib.Core.List.{List}
use native.Mathlib.Omega.{arith}
use lib.ListN.{length}
use borrow.Author.Tests.{ne_eqb}
use Rattle.buffers.specs.Lists.{all}
use Rattle.calendar.specs.Calendar.{latest}
use Rattle.model.specs.Rows.{Row, sound_row, ordered}
use Rattle.model.proofs.SoundRows.{row_dated, row_marker, row_size}
use Rattle.table.specs.Contents.{row_no}
use Rattle.table.specs.Layout.{rows_of, capacity, Holds}
use Rattle.table.specs.Searching.{Searchable}
use Rattle.table.proofs.Held.{rows_length}
use Rattle.search.proofs.Positions.{all_row, row_there, holds_searchable}
use Rattle.listing.specs.Ready.{Listable, Reportable}
use Rattle.listing.specs.Totals.{Countable}

module _ (xs : List Row) (next time : ℕ) (s : all (sound_row next time) xs ≡ true) where
  row_sound : (i : ℕ) → i < length xs → sound_row next time (row_no xs i) ≡ true
  row_sound i g = all_row (sound_row next time) xs i (row_no xs i) s (row_there xs i g)

  pub listable : time ≤ latest → Listable xs
  listable l = record { dated = λ i g. row_dated next time (row_no xs i) l (row_sound i g) }

  pub countable : length xs ≤ 1024 → Countable xs (length xs)
  countable l =
      record {
        there = omega arith;
        few = l;
        sized = λ i g. row_size next time (row_no xs i) (row_sound i g);
        kinds = λ i g f. row_marker next time (row_no xs i) (row_sound i g) (ne_eqb (row_no xs i).kind 1 f);
      }

-- Buffers that hold sound rows in order can be searched and reported.
module _ (n b : List ℕ) (u next time : ℕ) (h : Holds (capacity b) (rows_of n b u) n b) (o : ordered (rows_of n b u) ≡ true) (s : all (sound_row next time) (rows_of n b u) ≡ true) where
  pub searchable : Searchable n b u
  searchable = holds_searchable h o u (sym (rows_length n b u))

  pub reportable : u ≤ 1024 → Reportable n b u
  reportable l =
      let e = rows_length n b u in
      record { searchable = searchable; countable = rw e at (countable (rows_of n b u) next time s (rw e l)) }
