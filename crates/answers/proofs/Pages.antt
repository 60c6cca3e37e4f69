-- A page read back: its lines, their fields, and the dates among them.
use Prim.Native.Nat.{ℕ, ◌≤◌}
use mathlib.Core.Path.{◌≡◌, refl, sym, ◌∙◌, ap}
use mathlib.Core.Logic.{inl, inr}
use mathlib.Core.Bool.{Bool, true, false, ◌&&◌}
use mathlib.Core.List.{List, [], ◌∷◌, ◌++◌, map, append_assoc}
use Rattle.std.specs.Prelude.{Some}
use lib.Dec.{eqb}
use lib.ListN.{length, length-map}
use lib.Seq.{take_at}
use borrow.Author.Tests.{eq-eqb}
use Rattle.buffers.specs.Texts.{bytes}
use Rattle.buffers.specs.Lists.{keep, all, any, same}
use Rattle.buffers.proofs.Tests.{either, and_i, and_l, and_r}
use Rattle.buffers.proofs.Lists.{keep_yes, keep_among, keep_both, keep_map, all_middle, all_places, all_map, any_middle, same_refl, same_path}
use Rattle.text.specs.Fields.{fields, tabbed, field_of}
use Rattle.text.specs.Lines.{lines_of}
use Rattle.text.specs.Keys.{is_key}
use Rattle.text.specs.Printing.{digits}
use Rattle.text.proofs.RoundTrip.{number_back, digits_one_number}
use Rattle.text.proofs.Joined.{visible, digits_visible, key_visible, fields_back, line_back}
use Rattle.calendar.specs.Calendar.{latest}
use Rattle.dates.specs.Reading.{read_date}
use Rattle.dates.proofs.Printing.{date_visible}
use Rattle.dates.proofs.RoundTrip.{round_trip}
use Rattle.model.specs.Rows.{Row, is_data, ordered}
use Rattle.model.specs.Requests.{largest_count}
use Rattle.model.specs.Effects.{same_version}
use Rattle.model.proofs.Pages.{version_once}
use Rattle.answers.specs.Text.{fields_text, ok_text, until_text, kind_fields, fields_behind_key, line_fields, row_line, row_text, row_texts, page_text}
use Rattle.answers.specs.Pages.{rows_said, lines_shown, last_line, last_key, last_version}
use Rattle.answers.proofs.ReadBack.{mode_visible, until_visible, hold_visible, until_reads}

-- ## A row's line

behind_visible : (x : Row) → all visible (fields_behind_key x) ≡ true
unfolding kind_fields
behind_visible x =
    elim (either (is_data x)) [
      | inl d ↦ simp (d, digits_visible, date_visible, mode_visible, until_visible, hold_visible)
      | inr d ↦ simp (d, digits_visible, date_visible)
    ]

module _ (x : Row) (k : is_key x.key ≡ true) where
  -- The fields of a row's line are its nine fields.
  pub line_fields_lem : fields (row_line x) ≡ line_fields x
  line_fields_lem = fields_back x.key (fields_behind_key x) (key_visible x.key k) (behind_visible x)

  pub line_key : field_of (row_line x) 0 ≡ x.key
  unfolding field_of
  line_key = rw line_fields_lem

  pub line_version : field_of (row_line x) 1 ≡ digits x.number
  unfolding field_of
  line_version = rw line_fields_lem

  -- Both dates read back as the row's instants.
  pub line_created : x.created ≤ latest → read_date (field_of (row_line x) 3) ≡ Some x.created
  unfolding field_of kind_fields
  line_created h =
      elim (either (is_data x)) [
        | inl d ↦ rw (line_fields_lem, d) (round_trip x.created h)
        | inr d ↦ rw (line_fields_lem, d) (round_trip x.created h)
      ]

  pub line_until : is_data x ≡ true → (x.mode ≡ 0 → ⊥) → x.until ≤ latest → read_date (field_of (row_line x) 7) ≡ Some x.until
  unfolding field_of kind_fields
  line_until d m h = rw (line_fields_lem, d) (until_reads x.mode x.until m h)

  -- A marker has no date.
  line_marker : is_data x ≡ false → field_of (row_line x) 7 ≡ bytes "-"
  unfolding field_of kind_fields
  line_marker d = rw (line_fields_lem, d)

  -- Neither has a row without a mode.
  pub line_no_date : x.mode ≡ 0 → field_of (row_line x) 7 ≡ bytes "-"
  unfolding field_of kind_fields until_text
  line_no_date m =
      elim (either (is_data x)) [
        | inl d ↦ rw (line_fields_lem, d) (rw (eq-eqb x.mode 0 m))
        | inr d ↦ line_marker d
      ]

-- Rows of one line have one key and one number.
module _ (x y : Row) (k : is_key x.key ≡ true) (j : is_key y.key ≡ true) (e : row_line x ≡ row_line y) where
  line_one_key : x.key ≡ y.key
  line_one_key = sym (line_key x k) ∙ ap (λ (l : List ℕ). field_of l 0) e ∙ line_key y j

  line_one_number : x.number ≡ y.number
  line_one_number = digits_one_number x.number y.number (sym (line_version x k) ∙ ap (λ (l : List ℕ). field_of l 1) e ∙ line_version y j)

-- So the line tells the version.
line_tells : (x y : Row) → is_key x.key ≡ true → is_key y.key ≡ true → same (row_line x) (row_line y) ≡ (same (row_line x) (row_line y) && same_version x y)
line_tells x y k j =
    elim (either (same (row_line x) (row_line y))) [
      | inl t ↦
          let e = same_path (row_line x) (row_line y) t in
          let v : same_version x y ≡ true = and_i (same x.key y.key) _ (rw (line_one_key x y k j e) (same_refl y.key)) (eq-eqb x.number y.number (line_one_number x y k j e)) in
          simp (t, v)
      | inr t ↦ simp t
    ]

-- ## A page's lines

lines_of_lem : (xs : List Row) (room : List ℕ) → all (λ x. is_key x.key) xs ≡ true → lines_of (row_texts xs ++ room) ≡ map row_line xs ++ lines_of room
lines_of_lem [] room e = refl
lines_of_lem (x ∷ xs) room e =
    let t : row_texts (x ∷ xs) ++ room ≡ row_line x ++ 10 ∷ (row_texts xs ++ room) =
    append_assoc (row_text x) (row_texts xs) room ∙ append_assoc (row_line x) (10 ∷ []) (row_texts xs ++ room) in
    ap lines_of t ∙ line_back x.key (fields_behind_key x) (row_texts xs ++ room) (key_visible x.key (and_l _ _ e)) (behind_visible x)
    ∙ ap (λ (l : List (List ℕ)). row_line x ∷ l) (lines_of_lem xs room (and_r (is_key x.key) _ e))

-- the first line: `ok` and the number of rows
abbrev count_line : ℕ → List ℕ
count_line n = bytes "ok" ++ tabbed (digits n ∷ [])

count_visible : (n : ℕ) → all visible (digits n ∷ []) ≡ true
count_visible n = and_i (visible (digits n)) _ (digits_visible n) refl

page_lines : (xs : List Row) (room : List ℕ) → all (λ x. is_key x.key) xs ≡ true → lines_of (page_text xs ++ room) ≡ count_line (length xs) ∷ (map row_line xs ++ lines_of room)
unfolding page_text ok_text fields_text
page_lines xs room e =
    let t : page_text xs ++ room ≡ count_line (length xs) ++ 10 ∷ (row_texts xs ++ room) = simp append_assoc in
    ap lines_of t ∙ line_back (bytes "ok") (digits (length xs) ∷ []) (row_texts xs ++ room) refl (count_visible (length xs))
    ∙ ap (λ (l : List (List ℕ)). count_line (length xs) ∷ l) (lines_of_lem xs room e)

module _ (xs : List Row) (room : List ℕ) (keys : all (λ x. is_key x.key) xs ≡ true) (few : length xs ≤ largest_count) where
  -- The first line says how many rows there are.
  rows_said_lem : rows_said (page_text xs ++ room) ≡ length xs
  unfolding rows_said field_of
  rows_said_lem =
      rw (page_lines xs room keys) (rw (fields_back (bytes "ok") (digits (length xs) ∷ []) refl (count_visible (length xs)), number_back largest_count (length xs) few))

  -- The lines shown are the rows' lines.
  pub page_shows : lines_shown (page_text xs ++ room) ≡ map row_line xs
  unfolding lines_shown
  page_shows = rw (rows_said_lem, page_lines xs room keys) (take_at (map row_line xs) (lines_of room) (length xs) (length-map xs row_line))

-- ## The last line

last_of_lem : (ys : List Row) (x : Row) → last_line (map row_line (ys ++ x ∷ [])) ≡ row_line x
last_of_lem [] x = refl
last_of_lem (y ∷ []) x = refl
last_of_lem (y ∷ z ∷ ys) x = last_of_lem (z ∷ ys) x

-- The key and the version in the last line that a page shows are the last row's.
module _ (xs ys : List Row) (x : Row) (room : List ℕ) (e : xs ≡ ys ++ x ∷ []) (keys : all (λ x. is_key x.key) xs ≡ true) (few : length xs ≤ largest_count) where
  last_shown : last_line (lines_shown (page_text xs ++ room)) ≡ row_line x
  last_shown = ap last_line (page_shows xs room keys few) ∙ rw e (last_of_lem ys x)

  pub last_key_lem : last_key (page_text xs ++ room) ≡ x.key
  unfolding last_key
  last_key_lem = rw last_shown (line_key x (all_middle (λ x. is_key x.key) ys x [] (rw e at keys)))

  pub last_version_lem : last_version (page_text xs ++ room) ≡ digits x.number
  unfolding last_version
  last_version_lem = rw last_shown (line_version x (all_middle (λ x. is_key x.key) ys x [] (rw e at keys)))

-- ## Each row's line once

-- A row's line stands once among the lines of rows in order.
line_once : (ys : List Row) (x : Row) (zs : List Row) → ordered (ys ++ x ∷ zs) ≡ true → all (λ y. is_key y.key) (ys ++ x ∷ zs) ≡ true
    → keep (same (row_line x)) (map row_line (ys ++ x ∷ zs)) ≡ row_line x ∷ []
line_once ys x zs o keys =
    let xs : List Row = ys ++ x ∷ zs in
    let k : is_key x.key ≡ true = all_middle (λ y. is_key y.key) ys x zs keys in
    let p : Row → Bool = λ y. same (row_line x) (row_line y) in
    let one : keep p xs ≡ x ∷ [] =
    keep_among (λ y. is_key y.key) p (λ y. p y && same_version x y) (λ y j. line_tells x y k j) xs keys
    ∙ keep_both p (same_version x) xs ∙ ap (keep p) (version_once ys x zs o) ∙ keep_yes p x [] (same_refl (row_line x)) in
    keep_map row_line (same (row_line x)) xs ∙ ap (map row_line) one

pub lines_once : (xs : List Row) → ordered xs ≡ true → all (λ x. is_key x.key) xs ≡ true → all (λ x. eqb (length (keep (same (row_line x)) (map row_line xs))) 1) xs ≡ true
lines_once xs o keys =
    all_places (λ x. eqb (length (keep (same (row_line x)) (map row_line xs))) 1) xs
    (λ ys x zs e. rw e (rw (line_once ys x zs (rw e at o) (rw e at keys))))

-- Each of the lines is a row's.
pub lines_rows : (xs : List Row) → all (λ l. any (λ x. same l (row_line x)) xs) (map row_line xs) ≡ true
lines_rows xs =
    all_map row_line (λ l. any (λ x. same l (row_line x)) xs) xs
    ∙ all_places (λ y. any (λ x. same (row_line y) (row_line x)) xs) xs
    (λ ys y zs e. rw e (any_middle (λ x. same (row_line y) (row_line x)) ys y zs (same_refl (row_line y))))
