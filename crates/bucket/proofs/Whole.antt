-- What settings and buffers that are whole have, and when they are whole.
use Prim.Native.Nat.{ℕ, ◌*◌, ◌≤◌}
use mathlib.Core.Path.{◌≡◌, refl, sym, ap, ◌∙◌}
use mathlib.Core.Bool.{true}
use mathlib.Core.List.{List, []}
use native.Mathlib.Omega.{arith}
use lib.Dec.{leb}
use lib.ListN.{length, replicate}
use borrow.Author.Tests.{leb-true, le-leb}
use Rattle.buffers.specs.Lists.{all, same}
use Rattle.buffers.proofs.Tests.{and_i, and_l, and_r}
use Rattle.buffers.proofs.Lists.{all_as, same_path, same_refl}
use Rattle.text.proofs.Keys.{key_short}
use Rattle.model.specs.Rows.{Row, ordered, sound_row}
use Rattle.model.specs.Settings.{Bucket, sound, fits, sound_settings}
use Rattle.settings.specs.declared.Settings.{Settings}
use Rattle.settings.specs.Meaning.{settings_mean, fresh_settings, prefixes_are, settings_sound}
use Rattle.settings.proofs.Back.{fresh_sound}
use Rattle.table.specs.Layout.{numbers_of, keys_of, capacity, keys_fit, Holds}
use Rattle.table.proofs.Held.{numbers_laying, keys_laying, held_numbers, held_keys, held_capacity, held_rows}
use Rattle.bucket.specs.Whole.{Lent, lent, fresh_lent, used_rows, bucket_of, whole}
use Rattle.bucket.proofs.Steps.{sound_row_lem}
use Rattle.bucket.proofs.Laying.{lay_free}

-- The keys of sound rows fit their bytes.
sound_fit : (next time : ℕ) (xs : List Row) → all (sound_row next time) xs ≡ true → keys_fit xs ≡ true
sound_fit next time xs e =
    all_as (sound_row next time) (λ x. leb (length x.key) 63) (λ x h. le-leb _ 63 (key_short x.key (and_l _ _ (sym (sound_row_lem next time x) ∙ h)))) xs e

-- What a sound bucket has.
pub record SoundParts (c : ℕ) (b : Bucket) : Type 0 where
  pub room : length b.rows ≤ c
  pub settings_sound_lem : sound_settings b.settings ≡ true
  pub in_order : ordered b.rows ≡ true
  pub rows_sound : all (sound_row b.settings.next b.settings.time) b.rows ≡ true
  pub keys_have_room : keys_fit b.rows ≡ true

pub sound_parts : (c : ℕ) (b : Bucket) → sound c b ≡ true → SoundParts c b
unfolding sound fits
sound_parts c b e =
    let f = and_r (leb (length b.rows) c) _ e in
    let g = and_r (sound_settings b.settings) _ f in
    let h = and_r (ordered b.rows) _ g in
    record {
      room = leb-true (length b.rows) c (and_l _ _ e);
      settings_sound_lem = and_l _ _ f;
      in_order = and_l _ _ g;
      rows_sound = h;
      keys_have_room = sound_fit b.settings.next b.settings.time b.rows h;
    }

-- What a bucket that is whole has.
pub record WholeParts (b : Lent) : Type 0 where
  pub some : 1 ≤ capacity b.keys
  pub most : capacity b.keys ≤ 1024
  pub room : b.settings.used ≤ capacity b.keys
  pub numbers_long : length b.numbers ≡ 8 * capacity b.keys
  pub keys_long : length b.keys ≡ 64 * capacity b.keys
  pub holds : Holds (capacity b.keys) (used_rows b) b.numbers b.keys
  pub prefixes : prefixes_are b.settings.rules ≡ true
  pub is_sound : sound (capacity b.keys) (bucket_of b) ≡ true

pub whole_parts : (b : Lent) → whole b ≡ true → WholeParts b
unfolding whole
whole_parts b e =
    let c = capacity b.keys in
    let xs = used_rows b in
    let e1 = and_r (leb 1 c) _ e in
    let e2 = and_r (leb c 1024) _ e1 in
    let e3 = and_r (leb b.settings.used c) _ e2 in
    let e4 = and_r (same b.numbers (numbers_of c xs)) _ e3 in
    let e5 = and_r (same b.keys (keys_of c xs)) _ e4 in
    let e6 = and_r (prefixes_are b.settings.rules) _ e5 in
    let p = sound_parts c (bucket_of b) e6 in
    let h : Holds c xs b.numbers b.keys =
    record { numbers_are = same_path b.numbers (numbers_of c xs) (and_l _ _ e3); keys_are = same_path b.keys (keys_of c xs) (and_l _ _ e4); room = p.room; keys_have_room = p.keys_have_room } in
    record {
      some = leb-true 1 c (and_l _ _ e);
      most = leb-true c 1024 (and_l _ _ e1);
      room = leb-true b.settings.used c (and_l _ _ e2);
      numbers_long = held_numbers h;
      keys_long = held_keys h;
      holds = h;
      prefixes = and_l _ _ e5;
      is_sound = e6;
    }

-- The buffers that a sound bucket is written as are whole.
pub whole_of : (s : Settings) (c : ℕ) (xs : List Row) (n b : List ℕ) → 1 ≤ c → c ≤ 1024 → n ≡ numbers_of c xs → b ≡ keys_of c xs → s.used ≡ length xs
    → prefixes_are s.rules ≡ true → sound c (record { settings = settings_mean s; rows = xs }) ≡ true → whole (lent s n b) ≡ true
unfolding whole
whole_of s c xs n b some most p q u f e =
    let w = sound_parts c (record { settings = settings_mean s; rows = xs }) e in
    let h : Holds c xs n b = record { numbers_are = p; keys_are = q; room = w.room; keys_have_room = w.keys_have_room } in
    rw (held_capacity h, u, held_rows h)
    (and_i _ _ (le-leb 1 c some)
    (and_i _ _ (le-leb c 1024 most)
    (and_i _ _ (le-leb (length xs) c w.room)
    (and_i _ _ (ap (same n) (sym p) ∙ same_refl n)
    (and_i _ _ (ap (same b) (sym q) ∙ same_refl b)
    (and_i (prefixes_are s.rules) _ f e))))))

-- Fresh settings and zeros are whole.
pub fresh_whole : (c : ℕ) → 1 ≤ c → c ≤ 1024 → whole (fresh_lent c) ≡ true
unfolding sound fits settings_sound
fresh_whole c some most =
    whole_of fresh_settings c [] (replicate (8 * c) 0) (replicate (64 * c) 0) some most (sym (lay_free numbers_laying c)) (sym (lay_free keys_laying c)) refl
    (and_l _ _ fresh_sound)
    (and_i _ _ (le-leb 0 c (omega arith)) (and_i _ _ (and_r (prefixes_are fresh_settings.rules) _ fresh_sound) refl))
