-- Pages of a small table, where they start and end, and its totals, computed.
use Rattle.std.specs.Prelude.{ℕ, ◌≡◌, refl, true, List, [], ◌∷◌}
use Prim.Native.String.{String}
use Rattle.buffers.specs.Texts.{bytes}
use Rattle.model.specs.Rows.{Row, ordered}
use Rattle.model.specs.Requests.{page}
use Rattle.model.specs.Locks.{locked}
use Rattle.model.specs.Pages.{comes_after, page_rows}
use Rattle.model.specs.Reports.{Totals, totals_of}
use Rattle.search.specs.Places.{key_place}
use Rattle.listing.specs.Places.{place_after, page_start, prefix_end, page_end}
use Rattle.listing.specs.Totals.{with_row}

-- a row of this kind
abbrev row : ℕ → String → ℕ → Row
row kind k v = record { number = v; kind = kind; created = 0; body = 0; size = 0; mode = 0; until = 0; hold = 0; key = bytes k }

-- a version and a marker
abbrev kept : String → ℕ → Row
kept k v = row 1 k v

abbrev gone : String → ℕ → Row
gone k v = row 2 k v

-- a table in order
abbrev table : List Row
table = kept "p" 5 ∷ gone "q/7" 9 ∷ kept "q/7" 4 ∷ kept "q/8" 3 ∷ kept "r" 2 ∷ []

-- a page of the keys that begin with `q/`, from a key and a version on
abbrev in_q : String → ℕ → ℕ → List Row
in_q k v count = page_rows (page (bytes "q/") (bytes k) v count) table

abbrev start_q : String → ℕ → ℕ
start_q k v = page_start (bytes "q/") (bytes k) v table

abbrev end_q : ℕ → ℕ → ℕ
end_q start count = page_end (bytes "q/") start count table

-- a version of so many bytes under GOVERNANCE until 7
abbrev governed : ℕ → Row
governed size = record { number = 8; kind = 1; created = 0; body = 0; size = size; mode = 1; until = 7; hold = 0; key = bytes "q/9" }

abbrev counts : ℕ → ℕ → ℕ → ℕ → Totals
counts versions markers size locked = record { versions = versions; markers = markers; size = size; locked = locked }

pub record Examples : Type 0 where
  pub in_order : ordered table ≡ true
  -- version 0 is before a key's first row, another behind its own row; a version without a row has a place too
  pub before_first : place_after (bytes "q/7") 0 table ≡ 1
  pub behind_marker : place_after (bytes "q/7") 9 table ≡ 2
  pub behind_own : place_after (bytes "q/7") 4 table ≡ 3
  pub without_row : place_after (bytes "q/7") 5 table ≡ 2
  pub no_such_key : place_after (bytes "q/77") 1 table ≡ 3
  pub behind_every_row : place_after (bytes "z") 0 table ≡ 5
  -- where the prefix's rows end; a prefix that no key has ends where it would start
  pub end_of_q : prefix_end (bytes "q/") table ≡ 4
  pub end_of_all : prefix_end [] table ≡ 5
  pub end_of_none : prefix_end (bytes "q/6") table ≡ 1
  -- a page from the table's start on, and the next one
  pub first_start : start_q "" 0 ≡ 1
  pub first_end : end_q 1 2 ≡ 3
  pub first : in_q "" 0 2 ≡ gone "q/7" 9 ∷ kept "q/7" 4 ∷ []
  pub next_start : start_q "q/7" 4 ≡ 3
  pub next_end : end_q 3 2 ≡ 4
  pub next : in_q "q/7" 4 2 ≡ kept "q/8" 3 ∷ []
  -- a place in front of the prefix's rows, one among them without a row, and one behind them
  pub in_front : in_q "p" 5 1 ≡ gone "q/7" 9 ∷ []
  pub among : in_q "q/7" 5 2 ≡ kept "q/7" 4 ∷ kept "q/8" 3 ∷ []
  pub behind_start : start_q "r" 0 ≡ 4
  pub behind_end : end_q 4 2 ≡ 4
  pub behind : in_q "r" 0 2 ≡ []
  pub no_key : page_rows (page (bytes "q/6") [] 0 2) table ≡ []
  pub all_rows : page_rows (page [] [] 0 1000) table ≡ table
  -- the totals of a prefix, and with a row more: locked before its date, and no more at it
  pub totals_of_q : totals_of (bytes "q/") 6 table ≡ counts 2 1 0 0
  pub totals_of_none : totals_of (bytes "q/6") 6 table ≡ counts 0 0 0 0
  pub locked_more : with_row 6 (governed 300) (counts 2 1 0 0) ≡ counts 3 1 300 1
  pub open_more : with_row 7 (governed 300) (counts 2 1 0 0) ≡ counts 3 1 300 0
  pub marker_more : with_row 6 (gone "q/7" 9) (counts 2 1 0 0) ≡ counts 2 2 0 0

-- each by computing
pub examples : Examples
unfolding locked comes_after key_place place_after page_start prefix_end page_end
examples =
    record {
      in_order = refl;
      before_first = refl;
      behind_marker = refl;
      behind_own = refl;
      without_row = refl;
      no_such_key = refl;
      behind_every_row = refl;
      end_of_q = refl;
      end_of_all = refl;
      end_of_none = refl;
      first_start = refl;
      first_end = refl;
      first = refl;
      next_start = refl;
      next_end = refl;
      next = refl;
      in_front = refl;
      among = refl;
      behind_start = refl;
      behind_end = refl;
      behind = refl;
      no_key = refl;
      all_rows = refl;
      totals_of_q = refl;
      totals_of_none = refl;
      locked_more = refl;
      open_more = refl;
      marker_more = refl;
    }
