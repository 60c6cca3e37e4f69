-- An accepted LIST: the lines in the answer buffer are those of the page's rows, and they read back.
use Prim.Native.Nat.{ℕ, ◌≤◌}
use mathlib.Core.Path.{◌≡◌, sym, ◌∙◌, ap}
use mathlib.Core.Logic.{inl, inr}
use mathlib.Core.Bool.{true, ◌&&◌}
use mathlib.Core.List.{List, [], ◌∷◌, map}
use native.Mathlib.Omega.{arith}
use lib.Dec.{leb}
use lib.ListN.{length, drop, length-take}
use borrow.Author.Tests.{leb-true}
use Rattle.buffers.specs.Lists.{all}
use Rattle.buffers.proofs.Tests.{either, and_l, and_r}
use Rattle.buffers.proofs.Lists.{all_as, all_keep, all_take}
use Rattle.text.specs.Keys.{is_key, is_prefix}
use Rattle.calendar.specs.Calendar.{latest}
use Rattle.model.specs.Rows.{Row, is_data, sound_row, ordered}
use Rattle.model.specs.Settings.{Bucket, spent_number}
use Rattle.model.specs.Requests.{Page, Query, ListVersions, Ask, Request, says, is_place, largest_count, in_range}
use Rattle.model.specs.Effects.{rows_after}
use Rattle.model.specs.Pages.{matches, comes_after, rows_after_place, page_rows}
use Rattle.model.specs.Answers.{reply}
use Rattle.model.proofs.Accepted.{accepted_line}
use Rattle.model.proofs.SoundRows.{row_dated, row_bare, sound_key}
use Rattle.model.proofs.Sound as model
use Rattle.table.specs.Layout.{capacity}
use Rattle.bucket.specs.Whole.{Lent, bucket_of}
use Rattle.bucket.proofs.Whole.{whole_parts}
use Rattle.answers.specs.Text.{row_line, page_text}
use Rattle.answers.specs.Pages.{lines_shown}
use Rattle.answers.proofs.Pages.{line_fields_lem, line_created, line_until, line_no_date, page_shows}
use Rattle.outcome.specs.Calls.{Call, heard}
use Rattle.outcome.specs.Outcome.{written, outcome}
use Rattle.outcome.proofs.Demands.{accepted_request, outcome_number, accepted_of_whole}
use Rattle.outcome.proofs.Kept.{model_accepts, accepted_bucket}
use Rattle.guarantee.specs.Calls.{step}
use Rattle.guarantee.specs.Pages.{LineReadsBack, LinesReadBack, PageReadsBack}

-- ## The lines of sound rows

module _ (next time : ℕ) (l : time ≤ latest) where
  row_reads_back : (x : Row) → sound_row next time x ≡ true → LineReadsBack x (row_line x)
  row_reads_back x e =
      let k = sound_key next time x e in
      let d = row_dated next time x l e in
      record {
        nine = line_fields_lem x k;
        created = line_created x k d.created;
        until = λ m. elim (either (is_data x)) [
          | inl t ↦ line_until x k t m d.until
          | inr t ↦ absurd (m (row_bare next time x e t).no_mode)
        ];
        no_date = line_no_date x k;
      }

  rows_read_back : (xs : List Row) → all (sound_row next time) xs ≡ true → LinesReadBack xs (map row_line xs)
  rows_read_back [] e = tt
  rows_read_back (x ∷ xs) e = (row_reads_back x (and_l _ _ e), rows_read_back xs (and_r (sound_row next time x) _ e))

-- ## What asks leaves the rows as they are

pub asked_stay : (b : Lent) (g : Call) (q : Request) (a : Query) → (outcome b g).number ≡ 0 → heard g ≡ says q → q.verb ≡ Ask a → (bucket_of (step b g)).rows ≡ (bucket_of b).rows
unfolding rows_after
asked_stay b g q a n h v = ap (λ (x : Bucket). x.rows) (accepted_bucket b g q (accepted_of_whole b g n) h (sym (outcome_number b g) ∙ n)) ∙ rw v

-- ## An accepted LIST

-- What is known of the bucket that it was served on, of its page, and of what it left.
pub record Listed (b : Lent) (g : Call) (p : Page) : Type 0 where
  pub in_order : ordered (bucket_of b).rows ≡ true
  pub time_fits : b.settings.time ≤ latest
  pub next_fits : b.settings.next ≤ spent_number
  pub rows_sound : all (sound_row b.settings.next b.settings.time) (bucket_of b).rows ≡ true
  pub few : p.count ≤ largest_count
  pub answer_is : (outcome b g).answer ≡ written (page_text (page_rows p (bucket_of b).rows)) g.answer
  pub rows_stay : (bucket_of (step b g)).rows ≡ (bucket_of b).rows

pub listed : (b : Lent) (g : Call) (p : Page) (q : Request) → (outcome b g).number ≡ 0 → heard g ≡ says q → q.verb ≡ Ask (ListVersions p) → Listed b g p
unfolding reply in_range
listed b g p q n h v =
    let z = sym (outcome_number b g) ∙ n in
    let w = accepted_of_whole b g n in
    let c = capacity b.keys in
    let s = model.whole c (bucket_of b) (whole_parts b w).is_sound in
    let does = accepted_request b g q h z in
    let range = rw v at (accepted_line c (bucket_of b) q (model_accepts b g q w h z)).fields.is_in_range in
    let place = and_r (is_prefix p.prefix) _ range in
    let counted = and_r (is_place p.key p.version) _ place in
    record {
      in_order = s.in_order;
      time_fits = leb-true _ latest s.time_fits;
      next_fits = s.next_fits;
      rows_sound = s.rows_sound;
      few = leb-true p.count largest_count (and_r (leb 1 p.count) _ counted);
      answer_is = rw (does, v);
      rows_stay = asked_stay b g q (ListVersions p) n h v;
    }

module _ {b : Lent} {g : Call} {p : Page} (a : Listed b g p) where
  abbrev rows : List Row
  rows = (bucket_of b).rows

  pub page_sound : all (sound_row b.settings.next b.settings.time) (page_rows p rows) ≡ true
  page_sound = all_take _ p.count _ (all_keep _ (λ x. matches p.prefix x && comes_after p.key p.version x) rows a.rows_sound)

  pub page_keys : all (λ x. is_key x.key) (page_rows p rows) ≡ true
  page_keys = all_as _ (λ x. is_key x.key) (sound_key b.settings.next b.settings.time) (page_rows p rows) page_sound

  pub page_few : length (page_rows p rows) ≤ largest_count
  page_few = omega (arith, length-take p.count (rows_after_place p.prefix p.key p.version rows), a.few)

  -- The lines shown are those of the page's rows.
  pub shown_is : lines_shown (outcome b g).answer ≡ map row_line (page_rows p rows)
  shown_is = ap lines_shown a.answer_is ∙ page_shows (page_rows p rows) (drop (length (page_text (page_rows p rows))) g.answer) page_keys page_few

  pub page_reads_back : LinesReadBack (page_rows p rows) (lines_shown (outcome b g).answer)
  page_reads_back = rw shown_is (rows_read_back b.settings.next b.settings.time a.time_fits (page_rows p rows) page_sound)

pub reads_back : (b : Lent) (g : Call) → PageReadsBack b g
reads_back b g p q n h v = page_reads_back (listed b g p q n h v)
