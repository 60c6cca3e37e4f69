-- The tests of the code tell what is whole, and what a key is handed back for.
use Prim.Native.Nat.{ℕ, ◌+◌, ◌*◌, ◌-◌, ◌≤◌, ◌<◌}
use mathlib.Core.Path.{◌≡◌, sym, ap, ◌∙◌}
use mathlib.Core.Logic.{inl, inr}
use mathlib.Core.Bool.{Bool, true, false, ◌&&◌, and-false}
use mathlib.Core.List.{List, []}
use native.Mathlib.Omega.{arith}
use native.Mathlib.Numerals.{add-one}
use lib.ListN.{length, get_or, drop}
use borrow.Author.Tests.{le-leb, lt-ltb, le-ltb}
use Rattle.buffers.proofs.Tests.{either, clash, and_i, and_l, and_r}
use Rattle.text.specs.Keys.{is_key}
use Rattle.blocks.specs.Blocks.{key_in, is_block}
use Rattle.blocks.proofs.Blocks.{block_block}
use Rattle.model.specs.Rows.{sound_row}
use Rattle.model.specs.Settings.{sound, fits}
use Rattle.settings.specs.declared.Settings.{Settings}
use Rattle.settings.specs.Meaning.{prefixes_are, settings_sound}
use Rattle.table.specs.Layout.{row_at, rows_of, capacity}
use Rattle.table.specs.Places.{key_at}
use Rattle.table.proofs.Held.{numbers_laying, keys_laying, rows_length, held_block, held_fit, held_first}
use Rattle.bucket.specs.Steps.{all_below, zeros, numbers_at, is_key_block, block_at, keyed_at, ahead_at, sound_keys, sound_table}
use Rattle.bucket.specs.Whole.{lent, bucket_of, whole, key_of}
use Rattle.bucket.proofs.Steps.{below_at, below_all, pick_and, row_parts}
use Rattle.bucket.proofs.Laying.{rest_free, rows_all, all_rows, next_ordered, ordered_next, numbers_back, keys_back}
use Rattle.bucket.proofs.Whole.{WholeParts, sound_parts, whole_parts, whole_of}

table_is : (next time : ℕ) (n b : List ℕ) (u : ℕ)
    → sound_table next time n b u
    ≡ all_below (numbers_at next time n) u && ((all_below (keyed_at b) u && all_below (ahead_at n b) (u - 1)) && (zeros (drop (8 * u) n) && zeros (drop (64 * u) b)))
unfolding sound_table sound_keys
table_is next time n b u = simp pick_and

module _ (s : Settings) (n b : List ℕ) where
  -- Whole buffers pass.
  whole_passes : WholeParts (lent s n b) → sound_table s.next s.time n b s.used ≡ true
  unfolding ahead_at is_key_block
  whole_passes w =
      let c = capacity b in
      let u = s.used in
      let xs = rows_of n b u in
      let p = sound_parts c (bucket_of (lent s n b)) w.is_sound in
      let l = rows_length n b u in
      let row : (i : ℕ) → i < u → is_key (key_in (block_at b i)) && numbers_at s.next s.time n i ≡ true =
      λ i h. sym (row_parts s.next s.time n b i) ∙ all_rows (sound_row s.next s.time) n b u i p.rows_sound h in
      let block : (i : ℕ) → i < u → is_block (block_at b i) ≡ true =
      λ i h. let q : i < length xs = omega arith in ap is_block (held_block w.holds i (row_at n b 0) q) ∙ block_block _ (held_fit w.holds i (row_at n b 0) q) in
      table_is s.next s.time n b u
      ∙ and_i _ _ (below_all (numbers_at s.next s.time n) u (λ i h. and_r (is_key (key_in (block_at b i))) _ (row i h)))
      (and_i _ _
      (and_i _ _ (below_all (keyed_at b) u (λ i h. and_i (is_block (block_at b i)) _ (block i h) (and_l _ _ (row i h))))
      (below_all (ahead_at n b) (u - 1) (λ i h. rw (add-one i) (ordered_next n b u i p.in_order (omega arith)))))
      (and_i _ _
      (ap (λ (k : List ℕ). zeros (drop (8 * u) k)) w.holds.numbers_are ∙ (rw l at (rest_free numbers_laying c xs w.holds.room)))
      (ap (λ (k : List ℕ). zeros (drop (64 * u) k)) w.holds.keys_are ∙ (rw l at (rest_free keys_laying c xs w.holds.room)))))

  -- Buffers of the right lengths that pass are whole.
  passes_whole : 1 ≤ capacity b → capacity b ≤ 1024 → s.used ≤ capacity b → length n ≡ 8 * capacity b → length b ≡ 64 * capacity b
      → settings_sound s ≡ true → sound_table s.next s.time n b s.used ≡ true → whole (lent s n b) ≡ true
  unfolding sound fits settings_sound ahead_at is_key_block
  passes_whole some most room numbers_long keys_long f e =
      let c = capacity b in
      let u = s.used in
      let l = rows_length n b u in
      let e0 = sym (table_is s.next s.time n b u) ∙ e in
      let e1 = and_r (all_below (numbers_at s.next s.time n) u) _ e0 in
      let e2 = and_l (all_below (keyed_at b) u && all_below (ahead_at n b) (u - 1)) _ e1 in
      let e3 = and_r (all_below (keyed_at b) u && all_below (ahead_at n b) (u - 1)) _ e1 in
      let key : (i : ℕ) → i < u → keyed_at b i ≡ true = λ i h. below_at (keyed_at b) u i (and_l _ _ e2) h in
      whole_of s c (rows_of n b u) n b some most
      (sym (numbers_back c u n b numbers_long room (and_l _ _ e3)))
      (sym (keys_back c u n b keys_long room (λ i h. and_l _ _ (key i h)) (and_r (zeros (drop (8 * u) n)) _ e3)))
      (sym l)
      (and_l (prefixes_are s.rules) _ f)
      (and_i _ _ (le-leb (length (rows_of n b u)) c (rw l room))
      (and_i _ _ (and_r (prefixes_are s.rules) _ f)
      (and_i _ _
      (next_ordered n b u (λ i h. rw (← add-one i) (below_at (ahead_at n b) (u - 1) i (and_r (all_below (keyed_at b) u) _ e2) (omega arith))))
      (rows_all (sound_row s.next s.time) n b u (λ i h.
      row_parts s.next s.time n b i
      ∙ and_i _ _ (and_r (is_block (block_at b i)) _ (key i h)) (below_at (numbers_at s.next s.time n) u i (and_l _ _ e0) h))))))

  not_whole : (WholeParts (lent s n b) → ⊥) → false ≡ whole (lent s n b)
  not_whole f =
      elim (either (whole (lent s n b))) [
        | inl e ↦ absurd (f (whole_parts (lent s n b) e))
        | inr e ↦ sym e
      ]

  pub other_numbers : (length n ≡ 8 * capacity b → ⊥) → false ≡ whole (lent s n b)
  other_numbers h = not_whole (λ w. h w.numbers_long)

  pub other_keys : (length b ≡ 64 * capacity b → ⊥) → false ≡ whole (lent s n b)
  other_keys h = not_whole (λ w. h w.keys_long)

  pub no_row : capacity b < 1 → false ≡ whole (lent s n b)
  no_row h = not_whole (λ w. let q = w.some in omega arith)

  pub too_many : 1024 < capacity b → false ≡ whole (lent s n b)
  too_many h = not_whole (λ w. let q = w.most in omega arith)

  pub no_room : capacity b < s.used → false ≡ whole (lent s n b)
  no_room h = not_whole (λ w. let q = w.room in omega arith)

  pub unsound : (r : Bool) → r ≡ settings_sound s → r ≡ false → false ≡ whole (lent s n b)
  unfolding settings_sound
  unsound r e t =
      not_whole (λ w. clash r (e ∙ and_i _ _ w.prefixes (sound_parts (capacity b) (bucket_of (lent s n b)) w.is_sound).settings_sound_lem) t)

  pub tested : (r q : Bool) → 1 ≤ capacity b → capacity b ≤ 1024 → s.used ≤ capacity b → length n ≡ 8 * capacity b → length b ≡ 64 * capacity b
      → r ≡ settings_sound s → r ≡ true → q ≡ sound_table s.next s.time n b s.used → q ≡ whole (lent s n b)
  tested r q h1 h2 h3 h4 h5 e t f =
      elim (either (sound_table s.next s.time n b s.used)) [
        | inl a ↦ f ∙ a ∙ sym (passes_whole h1 h2 h3 h4 h5 (sym e ∙ t) a)
        | inr a ↦ f ∙ a ∙ not_whole (λ w. clash _ (whole_passes w) a)
      ]

pub ruleset whole_cases = (other_numbers, other_keys, no_row, too_many, no_room, unsound, tested)

-- ## The key of a row

module _ (s : Settings) (n b : List ℕ) (i : ℕ) (r : Bool) (e : r ≡ whole (lent s n b)) where
  pub key_unsound : r ≡ false → [] ≡ key_of (lent s n b) i
  unfolding key_of
  key_unsound t = rw (← e, t)

  pub key_past : s.used ≤ i → [] ≡ key_of (lent s n b) i
  unfolding key_of
  key_past h = rw (le-ltb i s.used h, and-false (whole (lent s n b)))

  pub key_used : (k : List ℕ) → r ≡ true → i < s.used → k ≡ key_at b i → k ≡ key_of (lent s n b) i
  unfolding key_of
  key_used k t h q = rw (← e, t, lt-ltb i s.used h) q

  pub key_there : r ≡ true → i < s.used → 64 * i + 64 ≤ length b
  key_there t h =
      let w = whole_parts (lent s n b) (sym e ∙ t) in
      let l = w.keys_long in
      let m = w.room in
      omega arith

  pub key_short : r ≡ true → i < s.used → get_or b (64 * i) 0 ≤ 63
  key_short t h = held_first (whole_parts (lent s n b) (sym e ∙ t)).holds i (row_at n b 0) (rw (rows_length n b s.used) h)

pub ruleset key_cases = (key_unsound, key_past, key_used, key_there, key_short)
