-- The row that a line names, from what the search finds in the buffers.
use Rattle.std.specs.Prelude.{Result, Ok, Err, ok_or, option_map, ◌==◌, if◌then◌else◌}
use Rattle.model.specs.declared.Refusal.{Refusal}
use Rattle.model.specs.declared.Refusal.TheVariants.{NoRow, IsMarker}
use Prim.Native.Nat.{ℕ, ◌<◌}
use mathlib.Core.Path.{◌≡◌, refl, sym, ap, ◌∙◌}
use mathlib.Core.Logic.{inl, inr}
use mathlib.Core.Bool.{true}
use mathlib.Core.List.{List}
use Rattle.std.specs.Prelude.{Option, Some, None}
use native.Mathlib.Omega.{arith}
use lib.ListN.{length}
use lib.Dec.{eqb}
use borrow.Author.Tests.{eqb-false}
use Rattle.buffers.proofs.Tests.{either}
use Rattle.model.specs.Rows.{Row, ordered}
use Rattle.model.specs.Requests.{Version, numbered, Name, name}
use Rattle.table.specs.declared.Numbers.{Numbers}
use Rattle.model.specs.Effects.{row_of}
use Rattle.table.specs.Contents.{row_no, numbers_in_row}
use Rattle.table.specs.Layout.{numbers_of_row}
use Rattle.table.specs.Places.{row_from, numbers_in}
use Rattle.search.specs.Places as places
use Rattle.search.proofs.Positions.{row_there, row_below, current_used, version_used}
use Rattle.search.proofs.Named.{current_row, version_row_lem}
use Rattle.judge.specs.declared.Named.{Named}
use Rattle.judge.specs.Meaning.{key_here}
use Rattle.model.specs.Refusal.{◌>>=◌}
use Rattle.judge.specs.Named.{found_by, row_found, row_named, data_named}

-- What is found is a row of the table.
found_used : (xs : List Row) (k : List ℕ) (v : Option Version) (i : ℕ) → found_by xs k v ≡ Ok i → i < length xs
found_used xs k None i e = current_used xs k (Ok i) i (sym e) refl
found_used xs k (Some (numbered m)) i e = version_used xs k (Ok i) i m (sym e) refl

-- ## In a table

module _ (xs : List Row) (key : List ℕ) (v : Option Version) (r : Result ℕ ℕ) (i : ℕ) (e : r ≡ found_by xs key v) where
  pub not_found : (k : List ℕ) → r ≡ Err i → key ≡ k → ◌≡◌ {A = Result Named Refusal} (Err NoRow) (row_named xs (name k v))
  unfolding row_named
  not_found k t q = rw (sym q) (ap (row_found xs) (sym t ∙ e))

  module _ (t : r ≡ Ok i) where
    pub found_there : i < length xs
    found_there = found_used xs key v i (sym e ∙ t)

    pub found_row : (k : List ℕ) (m : Numbers) → key ≡ k → m ≡ numbers_in_row (row_no xs i) → Ok (record { at = i; numbers = m }) ≡ row_named xs (name k v)
    unfolding row_named
    found_row k m q h = rw (h, sym q, sym e ∙ t, row_there xs i found_there)

pub ruleset finding = (not_found, found_there, found_row)

-- ## What the row is

-- The row that a name names stands at a position, with these numbers and its key.
pub record Stands (xs : List Row) (m : Name) (i : ℕ) (n : Numbers) : Type 0 where
  pub row_is : row_of xs m ≡ Some (row_from n (key_here xs i))
  pub is_there : places.nth_row xs i ≡ Some (row_from n (key_here xs i))
  pub below : i < length xs

-- It is data.
pub record StandsData (xs : List Row) (m : Name) (i : ℕ) (n : Numbers) : Type 0 where
  pub at : Stands xs m i n
  pub no_marker : n.kind ≡ 2 → ⊥

-- There is no such row.
pub record Lacks (xs : List Row) (m : Name) (e : Refusal) : Type 0 where
  pub is : e ≡ NoRow
  pub is_absent : row_of xs m ≡ None

abbrev Tells : List Row → Name → Result Named Refusal → Type 0
Tells xs m (Err e) = Lacks xs m e
Tells xs m (Ok w) = Stands xs m w.at w.numbers

module _ (xs : List Row) (k : List ℕ) (v : Option Version) (o : ordered xs ≡ true) where
  named_found : (w : Option Version) → places.row_found xs (found_by xs k w) ≡ row_of xs (name k w)
  named_found None = current_row k xs o
  named_found (Some (numbered n)) = version_row_lem k n xs o

  found_named : (f : Result ℕ ℕ) → found_by xs k v ≡ f → row_of xs (name k v) ≡ places.row_found xs f
  found_named f e = sym (named_found v) ∙ ap (places.row_found xs) e

  tells_at : (i : ℕ) (x : Option Row) → row_of xs (name k v) ≡ x → places.nth_row xs i ≡ x → Tells xs (name k v) (ok_or (option_map (λ y. record { at = i; numbers = numbers_in (numbers_of_row y) }) x) NoRow)
  tells_at i None e q = record { is = refl; is_absent = e }
  tells_at i (Some y) e q = record { row_is = rw q e; is_there = rw q; below = row_below xs i y q }

  tells_found : (f : Result ℕ ℕ) → found_by xs k v ≡ f → Tells xs (name k v) (row_found xs f)
  tells_found (Ok i) e = tells_at i (places.nth_row xs i) (found_named (Ok i) e) refl
  tells_found (Err i) e = record { is = refl; is_absent = found_named (Err i) e }

module _ (xs : List Row) (m : Name) (o : ordered xs ≡ true) where
  tells : (q : Result Named Refusal) → row_named xs m ≡ q → Tells xs m q
  unfolding row_named
  tells q e = rw (sym e) (tells_found xs m.key m.version o (found_by xs m.key m.version) refl)

  pub lacks : (e : Refusal) → row_named xs m ≡ Err e → Lacks xs m e
  lacks e h = tells (Err e) h

  pub stands : (w : Named) → row_named xs m ≡ Ok w → Stands xs m w.at w.numbers
  stands w e = tells (Ok w) e

  pub stands_data : (w : Named) → data_named xs m ≡ Ok w → StandsData xs m w.at w.numbers
  unfolding data_named
  stands_data w e = go (row_named xs m) refl e
    where
      go : (q : Result Named Refusal) → row_named xs m ≡ q → (q >>= (λ v. if v.numbers.kind == 2 then Err IsMarker else Ok v)) ≡ Ok w → StandsData xs m w.at w.numbers
      go (Err k) f g = let z : ◌≡◌ {A = ℕ} 0 1 = cc in absurd (omega arith)
      go (Ok v) f g =
          elim (either (eqb v.numbers.kind 2)) [
            | inl h ↦ let d : Err IsMarker ≡ Ok w = rw h at g in let z : ◌≡◌ {A = ℕ} 0 1 = cc in absurd (omega arith)
            | inr h ↦
                let d : ◌≡◌ {A = Result Named Refusal} (Ok v) (Ok w) = rw h at g in
                let u : v ≡ w = cc in
                rw (sym u) (record { at = stands v f; no_marker = eqb-false v.numbers.kind 2 h })
          ]
