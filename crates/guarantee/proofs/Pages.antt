-- Pages that follow each other show every matching row once, and no others.
use Prim.Native.Nat.{ℕ, ◌≤◌}
use mathlib.Core.Path.{◌≡◌, refl, sym, ◌∙◌, ap, ap₂, subst⁻¹}
use mathlib.Core.Bool.{true, ◌&&◌, false≢true}
use mathlib.Core.List.{List, [], ◌∷◌, ◌++◌, map, map-append, append-nil}
use Rattle.std.specs.Prelude.{Option, Some, None}
use native.Mathlib.Omega.{arith}
use lib.Dec.{eqb, ltb}
use lib.ListN.{length, take, drop, length-take, length-map, take-append-drop}
use lib.Seq.{take_all}
use borrow.Author.Tests.{eqb-true, ltb-true}
use Rattle.buffers.specs.Choices.{or_zero}
use Rattle.buffers.specs.Texts.{bytes}
use Rattle.buffers.specs.Lists.{same}
use Rattle.buffers.proofs.Tests.{and_l, and_r}
use Rattle.buffers.proofs.Lists.{all_as, all_middle, all_keep}
use Rattle.text.specs.Keys.{is_key}
use Rattle.text.specs.Numbers.{number_of}
use Rattle.text.specs.Fields.{field_of}
use Rattle.text.specs.Printing.{digits}
use Rattle.text.proofs.RoundTrip.{number_back}
use Rattle.model.specs.Rows.{Row, sound_row}
use Rattle.model.specs.Settings.{largest_number}
use Rattle.model.specs.Requests.{page, largest_count}
use Rattle.model.specs.Pages.{matches, rows_after_place}
use Rattle.model.specs.Run.{left}
use Rattle.model.proofs.Pages.{rest_after, from_start}
use Rattle.model.proofs.Order.{ordered_keep}
use Rattle.model.proofs.SoundRows.{row_parts, sound_key}
use Rattle.model.proofs.Sound as model
use Rattle.table.specs.Layout.{capacity}
use Rattle.bucket.specs.Whole.{Lent, bucket_of, whole}
use Rattle.bucket.proofs.Whole.{whole_parts}
use Rattle.request.specs.Grammar.{asked}
use Rattle.request.proofs.Pages.{asks_page}
use Rattle.answers.specs.Text.{row_line, page_text}
use Rattle.answers.specs.Pages.{last_key, last_version}
use Rattle.answers.proofs.Pages.{last_key_lem, last_version_lem, lines_once, lines_rows}
use Rattle.outcome.specs.Calls.{Call}
use Rattle.outcome.specs.Outcome.{outcome}
use Rattle.outcome.proofs.Demands.{accepted_of_whole}
use Rattle.knitpasture.specs.Bytes.{lent_of}
use Rattle.guarantee.specs.Calls.{step}
use Rattle.guarantee.specs.Bytes.{byte_step}
use Rattle.guarantee.specs.Exchanges.{Exchange, exchange, exchanges, sent_field, byte_exchange, byte_exchanges}
use Rattle.guarantee.specs.Pages.{is_page_from, count_sent, shown_by, are_pages, follow_pages, all_shown, matching_rows, ShowsEachOnce, PagesShowAll, PagesShowAllBytes}
use Rattle.guarantee.proofs.Said.{accepted_read, read_field, read_same}
use Rattle.guarantee.proofs.Bytes.{accepted_sized, spelled_exchanges}
use Rattle.guarantee.proofs.Listed.{Listed, listed, page_sound, page_keys, page_few, shown_is}

-- ## One page

-- The page that was asked for, and that it was served.
record ServedPage (prefix key version : List ℕ) (b : Lent) (g : Call) : Type 0 where
  number : ℕ
  count : ℕ
  version_is : number_of largest_number version ≡ Some number
  count_is : count_sent (exchange b g) ≡ count
  is_listed : Listed b g (page prefix key number count)

-- An accepted line with the word LIST and these fields.
module _ (prefix key version : List ℕ) (b : Lent) (g : Call) (e : is_page_from prefix key version (exchange b g) ≡ true) where
  abbrev field : ℕ → List ℕ
  field i = sent_field g.sent i

  accepted_0 : (outcome b g).number ≡ 0
  accepted_0 = eqb-true _ 0 (and_l _ _ e)

  fields_e : (same (field 2) (bytes "LIST") && (same (field 3) prefix && (same (field 4) key && same (field 5) version))) ≡ true
  fields_e = and_r (eqb (outcome b g).number 0) _ e

  places_e : (same (field 3) prefix && (same (field 4) key && same (field 5) version)) ≡ true
  places_e = and_r (same (field 2) (bytes "LIST")) _ fields_e

  place_e : (same (field 4) key && same (field 5) version) ≡ true
  place_e = and_r (same (field 3) prefix) _ places_e

  served_page : ServedPage prefix key version b g
  served_page =
      let r = accepted_read b g accepted_0 in
      let a = asks_page r.bytes r.said (read_same r 2 (bytes "LIST") (and_l _ _ fields_e)) r.reads in
      let p = read_same r 3 prefix (and_l _ _ places_e) in
      let k = read_same r 4 key (and_l _ _ place_e) in
      let v = read_same r 5 version (and_r (same (field 4) key) _ place_e) in
      record {
        number = a.version;
        count = a.count;
        version_is = rw v at a.version_is;
        count_is = ap (λ (x : List ℕ). or_zero (number_of largest_count x)) (read_field r 6) ∙ ap or_zero a.count_is;
        is_listed = listed b g (page prefix key a.version a.count) (asked (length g.answer) r.said) accepted_0 r.hears (a.verb_is ∙ rw (p, k));
      }

-- ## Pages

-- A list that is not empty ends in an element.
record Ending (xs : List Row) : Type 0 where
  before : List Row
  last : Row
  is : xs ≡ before ++ last ∷ []

ending : (xs : List Row) → 1 ≤ length xs → Ending xs
ending [] l = absurd (omega arith)
ending (x ∷ []) l = record { before = []; last = x; is = refl }
ending (x ∷ y ∷ xs) l = let e = ending (y ∷ xs) (omega arith) in record { before = x ∷ e.before; last = e.last; is = ap (λ (l : List Row). x ∷ l) e.is }

module _ {prefix key version : List ℕ} {b : Lent} {g : Call} (s : ServedPage prefix key version b g) where
  abbrev rows : List Row
  rows = (bucket_of b).rows

  -- The matching rows after the place, of which the page shows as many as its count.
  abbrev wanted : List Row
  wanted = rows_after_place prefix key s.number rows

  shown_rows : shown_by (exchange b g) ≡ map row_line (take s.count wanted)
  shown_rows = shown_is s.is_listed

  many : length (shown_by (exchange b g)) ≡ length (take s.count wanted)
  many = ap length shown_rows ∙ length-map (take s.count wanted) row_line

  -- The last page shows all that is left.
  last_page : ltb (length (shown_by (exchange b g))) (count_sent (exchange b g)) ≡ true → shown_by (exchange b g) ≡ map row_line wanted
  last_page e =
      let l = ltb-true (length (shown_by (exchange b g))) (count_sent (exchange b g)) e in
      shown_rows ∙ ap (map row_line) (take_all s.count wanted (omega (arith, length-take s.count wanted, many, s.count_is, l)))

  -- A page that another goes on after ends in a row, and the rows after that row are the rest.
  record GoesOn : Type 0 where
    last : Row
    key_is : last_key (outcome b g).answer ≡ last.key
    version_is : number_of largest_number (last_version (outcome b g).answer) ≡ Some last.number
    rest : rows_after_place prefix last.key last.number rows ≡ drop s.count wanted

  -- It has rows: an empty page has no version in its last line that could be read.
  not_empty : (n : ℕ) → number_of largest_number (last_version (outcome b g).answer) ≡ Some n → (xs : List Row) → take s.count wanted ≡ xs → 1 ≤ length xs
  unfolding last_version field_of number_of
  not_empty n v [] e = let z : ◌≡◌ {A = Option ℕ} None (Some n) = rw (shown_rows, e) at v in let y : ◌≡◌ {A = ℕ} 0 1 = cc in absurd (omega arith)
  not_empty n v (x ∷ xs) e = omega arith

  goes_on : (n : ℕ) → number_of largest_number (last_version (outcome b g).answer) ≡ Some n → GoesOn
  goes_on n v =
      let a = s.is_listed in
      let room = drop (length (page_text (take s.count wanted))) g.answer in
      let t = ending (take s.count wanted) (not_empty n v (take s.count wanted) refl) in
      let x = t.last in
      let sound = row_parts _ _ x (all_middle (sound_row b.settings.next b.settings.time) t.before x [] (rw t.is at (page_sound a))) in
      record {
        last = x;
        key_is = ap last_key a.answer_is ∙ last_key_lem (take s.count wanted) t.before x room t.is (page_keys a) (page_few a);
        version_is =
            ap (λ (t : List ℕ). number_of largest_number (last_version t)) a.answer_is
            ∙ ap (number_of largest_number) (last_version_lem (take s.count wanted) t.before x room t.is (page_keys a) (page_few a))
            ∙ number_back largest_number x.number (omega (arith, sound.below, a.next_fits));
        rest = rest_after prefix key s.number s.count rows t.before x a.in_order t.is sound.from_one;
      }

  -- The page's lines and those of the rows after its last row are all.
  page_and_rest : (f : GoesOn) (k : List ℕ) (n : ℕ) (xs : List Row) (ls : List (List ℕ)) → k ≡ f.last.key → n ≡ f.last.number → xs ≡ rows
      → ls ≡ map row_line (rows_after_place prefix k n xs) → shown_by (exchange b g) ++ ls ≡ map row_line wanted
  page_and_rest f k n xs ls ek en ex e =
      ap₂ (λ (l m : List (List ℕ)). l ++ m) shown_rows (e ∙ rw (ek, en, ex) (ap (map row_line) f.rest))
      ∙ sym (map-append row_line (take s.count wanted) (drop s.count wanted))
      ∙ ap (map row_line) (take-append-drop s.count wanted)

-- Pages from a place on show the lines of the matching rows after it.
record ShownFrom (prefix key version : List ℕ) (b : Lent) (es : List Exchange) : Type 0 where
  number : ℕ
  version_is : number_of largest_number version ≡ Some number
  all_is : all_shown es ≡ map row_line (rows_after_place prefix key number (bucket_of b).rows)

pages_from : (prefix key version : List ℕ) (b : Lent) (gs : List Call) → are_pages prefix key version (exchanges b gs) ≡ true → ShownFrom prefix key version b (exchanges b gs)
pages_from prefix key version b [] e = absurd (false≢true e)
pages_from prefix key version b (g ∷ []) e =
    let s = served_page prefix key version b g (and_l _ _ e) in
    record { number = s.number; version_is = s.version_is; all_is = append-nil (shown_by (exchange b g)) ∙ last_page s (and_r (is_page_from prefix key version (exchange b g)) _ e) }
pages_from prefix key version b (g ∷ h ∷ gs) e =
    let s = served_page prefix key version b g (and_l _ _ e) in
    let next = pages_from prefix (last_key (outcome b g).answer) (last_version (outcome b g).answer) (step b g) (h ∷ gs) (and_r (is_page_from prefix key version (exchange b g)) _ e) in
    let f = goes_on s next.number next.version_is in
    let same : Some next.number ≡ Some f.last.number = sym next.version_is ∙ f.version_is in
    let number_is : next.number ≡ f.last.number = cc in
    record {
      number = s.number;
      version_is = s.version_is;
      all_is = page_and_rest s f _ _ _ _ f.key_is number_is s.is_listed.rows_stay next.all_is;
    }

-- Pages leave the rows as they are.
pub pages_keep : (prefix key version : List ℕ) (b : Lent) (gs : List Call) → are_pages prefix key version (exchanges b gs) ≡ true → (bucket_of (left step b gs)).rows ≡ (bucket_of b).rows
pages_keep prefix key version b [] e = refl
pages_keep prefix key version b (g ∷ []) e = (served_page prefix key version b g (and_l _ _ e)).is_listed.rows_stay
pages_keep prefix key version b (g ∷ h ∷ gs) e =
    pages_keep prefix (last_key (outcome b g).answer) (last_version (outcome b g).answer) (step b g) (h ∷ gs) (and_r (is_page_from prefix key version (exchange b g)) _ e)
    ∙ (served_page prefix key version b g (and_l _ _ e)).is_listed.rows_stay

-- ## The promise

pub first_accepted : (prefix key version : List ℕ) (e : Exchange) (es : List Exchange) → are_pages prefix key version (e ∷ es) ≡ true → e.number ≡ 0
first_accepted prefix key version e [] h = eqb-true _ 0 (and_l _ _ (and_l _ _ h))
first_accepted prefix key version e (f ∷ es) h = eqb-true _ 0 (and_l _ _ (and_l _ _ h))

-- An accepted page tells that the bucket is whole.
whole_first : (prefix key version : List ℕ) (b : Lent) (gs : List Call) → are_pages prefix key version (exchanges b gs) ≡ true → whole b ≡ true
whole_first prefix key version b [] e = absurd (false≢true e)
whole_first prefix key version b (g ∷ gs) e = accepted_of_whole b g (first_accepted prefix key version (exchange b g) (exchanges (step b g) gs) e)

-- The lines of the matching rows show each once.
shows_lines : (prefix : List ℕ) (b : Lent) → whole b ≡ true → (ls : List (List ℕ)) → ls ≡ map row_line (matching_rows prefix b) → ShowsEachOnce prefix b ls
shows_lines prefix b w ls e =
    let s = model.whole (capacity b.keys) (bucket_of b) (whole_parts b w).is_sound in
    let keys = all_as _ (λ x. is_key x.key) (sound_key b.settings.next b.settings.time) (matching_rows prefix b) (all_keep _ (matches prefix) (bucket_of b).rows s.rows_sound) in
    record {
      exactly = e;
      each_once = rw e (lines_once (matching_rows prefix b) (ordered_keep (matches prefix) (bucket_of b).rows s.in_order) keys);
      no_others = rw e (lines_rows (matching_rows prefix b));
    }

pub pages_show_all : PagesShowAll
unfolding digits
pages_show_all prefix b gs e =
    let p = pages_from prefix [] (bytes "0") b gs e in
    let z : Some p.number ≡ Some 0 = sym p.version_is ∙ number_back largest_number 0 (omega arith) in
    let zero_is : p.number ≡ 0 = cc in
    shows_lines prefix b (whole_first prefix [] (bytes "0") b gs e) (all_shown (exchanges b gs)) (p.all_is ∙ rw zero_is (ap (map row_line) (from_start prefix (bucket_of b).rows)))

-- ## Over the C entry

pub pages_show_all_bytes : PagesShowAllBytes
pages_show_all_bytes prefix b [] e = absurd (false≢true e)
pages_show_all_bytes prefix b (g ∷ gs) e =
    let z = accepted_sized b g (first_accepted prefix [] (bytes "0") (byte_exchange b g) (byte_exchanges (byte_step b g) gs) e) in
    let same = spelled_exchanges (capacity b.keys) b (g ∷ gs) z in
    subst⁻¹ (λ (es : List Exchange). ShowsEachOnce prefix (lent_of b) (all_shown es)) same (pages_show_all prefix (lent_of b) (g ∷ gs) (sym (ap (follow_pages prefix) same) ∙ e))
