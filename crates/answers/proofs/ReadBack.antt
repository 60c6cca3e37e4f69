-- An answer of one line read back: its text, a GET's fields with the date among them, and REPORT's fields.
use Prim.Native.Nat.{ℕ, ◌≤◌}
use mathlib.Core.Path.{◌≡◌, refl, ◌∙◌, ap}
use mathlib.Core.Bool.{true}
use mathlib.Core.List.{List, [], ◌∷◌, ◌++◌, append_assoc}
use Rattle.std.specs.Prelude.{Some}
use lib.Dec.{eqb}
use borrow.Author.Tests.{ne_eqb}
use Rattle.buffers.specs.Texts.{bytes}
use Rattle.buffers.specs.Lists.{all}
use Rattle.buffers.proofs.Choices.{pick_ways}
use Rattle.text.specs.Fields.{fields, field_of, tabbed}
use Rattle.text.specs.Lines.{first_line}
use Rattle.text.specs.Printing.{digits}
use Rattle.text.proofs.Joined.{visible, digits_visible, fields_back, first_line_lem}
use Rattle.calendar.specs.Calendar.{latest}
use Rattle.dates.specs.Reading.{read_date}
use Rattle.dates.specs.Printing.{print_date}
use Rattle.dates.proofs.Printing.{date_visible}
use Rattle.dates.proofs.RoundTrip.{round_trip}
use Rattle.model.specs.Rows.{Row, governance}
use Rattle.model.specs.Requests.{Version, numbered}
use Rattle.model.specs.Reports.{Totals}
use Rattle.model.specs.Answers.{made, shown, reported}
use Rattle.answers.specs.Text.{fields_text, ok_text, mode_text, until_text, hold_text, row_fields, totals_fields, answer_text}

pub mode_visible : (m : ℕ) → visible (mode_text m) ≡ true
unfolding mode_text
mode_visible m =
    pick_ways (λ t. visible t ≡ true) (eqb m 0) (λ _. refl)
    (λ _. pick_ways (λ t. visible t ≡ true) (eqb m governance) (λ _. refl) (λ _. refl))

pub until_visible : (m d : ℕ) → visible (until_text m d) ≡ true
unfolding until_text
until_visible m d = pick_ways (λ t. visible t ≡ true) (eqb m 0) (λ _. refl) (λ _. date_visible d)

pub hold_visible : (h : ℕ) → visible (hold_text h) ≡ true
unfolding hold_text
hold_visible h = pick_ways (λ t. visible t ≡ true) (eqb h 0) (λ _. refl) (λ _. refl)

-- The date of a row with a mode reads back.
pub until_reads : (m d : ℕ) → (m ≡ 0 → ⊥) → d ≤ latest → read_date (until_text m d) ≡ Some d
unfolding until_text
until_reads m d h l = rw (ne_eqb m 0 h) (round_trip d l)

-- ## A line of fields

module _ (fs : List (List ℕ)) (room : List ℕ) (v : all visible fs ≡ true) where
  -- The first line of a buffer that the answer begins is the answer without its line feed.
  ok_line : first_line (ok_text fs ++ room) ≡ bytes "ok" ++ tabbed fs
  unfolding ok_text fields_text
  ok_line =
      let t : ok_text fs ++ room ≡ (bytes "ok" ++ tabbed fs) ++ 10 ∷ room = simp append_assoc in
      ap first_line t ∙ first_line_lem (bytes "ok") fs room refl v

  ok_back : first_line (ok_text fs ++ room) ++ 10 ∷ [] ≡ ok_text fs
  unfolding ok_text fields_text
  ok_back = ap (λ (l : List ℕ). l ++ 10 ∷ []) ok_line ∙ append_assoc (bytes "ok") (tabbed fs) (10 ∷ [])

  ok_fields : fields (first_line (ok_text fs ++ room)) ≡ bytes "ok" ∷ fs
  ok_fields = ap fields ok_line ∙ fields_back (bytes "ok") fs refl v

-- The answer of a number.
pub version_back : (v : Version) (room : List ℕ) → first_line (answer_text (made v) ++ room) ++ 10 ∷ [] ≡ answer_text (made v)
version_back (numbered n) room = ok_back (digits n ∷ []) room (simp digits_visible)

-- ## A row

module _ (x : Row) (room : List ℕ) where
  fields_visible : all visible (row_fields x) ≡ true
  fields_visible = simp (digits_visible, mode_visible, until_visible, hold_visible)

  row_fields_lem : fields (first_line (answer_text (shown x) ++ room)) ≡ bytes "ok" ∷ row_fields x
  row_fields_lem = ok_fields (row_fields x) room fields_visible

  -- The fifth field after `ok` is the row's date.
  pub until_field : (x.mode ≡ 0 → ⊥) → field_of (first_line (answer_text (shown x) ++ room)) 5 ≡ print_date x.until
  unfolding field_of until_text
  until_field m = rw (row_fields_lem, ne_eqb x.mode 0 m)

-- ## Totals

-- The fields of the first line are `ok` and the four numbers.
pub totals_fields_lem : (t : Totals) (room : List ℕ) → fields (first_line (answer_text (reported t) ++ room)) ≡ bytes "ok" ∷ totals_fields t
totals_fields_lem t room = ok_fields (totals_fields t) room (simp digits_visible)
