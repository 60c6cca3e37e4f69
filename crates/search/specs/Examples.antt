-- The order of keys, and a search in a small table, computed.
use Rattle.std.specs.Prelude.{ℕ, ◌≡◌, refl, true, List, [], ◌∷◌}
use Prim.Native.String.{String}
use Rattle.std.specs.Prelude.{Some, None}
use Rattle.buffers.specs.Texts.{bytes}
use Rattle.model.specs.Rows.{Row, ordered}
use Rattle.search.specs.Keys.{is_order, rank}
use Rattle.search.specs.Places.{key_place, current_in, version_place, version_in, row_found}
use Rattle.std.specs.declared.cmp.Ordering.TheVariants.{Less, Equal, Greater}
use Rattle.std.specs.Prelude.{Ok, Err}

-- a marker of a key, with a version number
abbrev row : String → ℕ → Row
row k v = record { number = v; kind = 2; created = 0; body = 0; size = 0; mode = 0; until = 0; hold = 0; key = bytes k }

-- a table in order: of a key's versions the highest comes first
abbrev table : List Row
table = row "a" 7 ∷ row "b" 9 ∷ row "b" 4 ∷ row "d" 2 ∷ []

pub record Examples : Type 0 where
  pub prefix_first : is_order Less (bytes "log") (bytes "logs") ≡ true
  pub by_first_byte : is_order Greater (bytes "b") (bytes "aa") ≡ true
  pub same_key : is_order Equal (bytes "log") (bytes "log") ≡ true
  pub unsigned : is_order Less (126 ∷ []) (200 ∷ []) ≡ true
  pub first_counts_most : rank 2 (bytes "ab") ≡ 24930
  pub in_order : ordered table ≡ true
  pub current : current_in (bytes "b") table ≡ Ok 1
  pub no_key : current_in (bytes "c") table ≡ Err 3
  pub behind_all : current_in (bytes "e") table ≡ Err 4
  pub older : version_in (bytes "b") 4 table ≡ Ok 2
  pub no_version : version_in (bytes "b") 6 table ≡ Err 2
  pub other_key : version_in (bytes "a") 9 table ≡ Err 0
  pub the_row : row_found table (version_in (bytes "b") 4 table) ≡ Some (row "b" 4)
  pub no_row : row_found table (current_in (bytes "c") table) ≡ None

-- each by computing
pub examples : Examples
unfolding rank key_place current_in version_place version_in
examples =
    record {
      prefix_first = refl;
      by_first_byte = refl;
      same_key = refl;
      unsigned = refl;
      first_counts_most = refl;
      in_order = refl;
      current = refl;
      no_key = refl;
      behind_all = refl;
      older = refl;
      no_version = refl;
      other_key = refl;
      the_row = refl;
      no_row = refl;
    }
