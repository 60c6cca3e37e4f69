-- Fields that are parted by tabs, and lines that a line feed ends, are read back where their bytes are visible.
use Prim.Native.Nat.{ℕ, suc, ◌<◌}
use mathlib.Core.Path.{◌≡◌, refl, ◌∙◌, ap}
use mathlib.Core.Logic.{inl, inr}
use mathlib.Core.Bool.{Bool, true, not, false≢true}
use mathlib.Core.List.{List, [], ◌∷◌, ◌++◌, append-nil}
use native.Mathlib.Omega.{arith}
use lib.Dec.{eqb, leb, ltb}
use lib.ListN.{length}
use lib.Seq.{take_at}
use borrow.Author.Tests.{ne_eqb, not-true, leb-true, le-leb, ltb-false}
use Rattle.buffers.specs.Lists.{all}
use Rattle.buffers.proofs.Tests.{either, and_l, and_r}
use Rattle.buffers.proofs.Lists.{all_as, all_append}
use Rattle.text.specs.Numbers.{is_digit}
use Rattle.text.specs.Keys.{is_key_byte, is_key}
use Rattle.text.specs.Fields.{fields, tabbed}
use Rattle.text.specs.Lines.{lines_of, feed_at, first_line}
use Rattle.text.specs.Printing.{digits}
use Rattle.text.proofs.Keys.{prefix_bytes, key_prefix}
use Rattle.text.proofs.Lines.{first_more}
use Rattle.text.proofs.RoundTrip.{digits_all}

-- ## Visible bytes

-- The byte is above the blanks: it is no tab and no line feed.
abbrev pub visible : List ℕ → Bool
visible s = all (λ b. leb 33 b) s

abbrev pub without : ℕ → List ℕ → Bool
without c s = all (λ b. not (eqb b c)) s

pub visible_without : (c : ℕ) → c < 33 → (s : List ℕ) → visible s ≡ true → without c s ≡ true
visible_without c h s e = all_as (λ b. leb 33 b) (λ b. not (eqb b c)) (λ b t. rw (ne_eqb b c (λ q. omega (arith, leb-true 33 b t)))) s e

digit_visible : (b : ℕ) → is_digit b ≡ true → leb 33 b ≡ true
unfolding is_digit
digit_visible b e =
    elim (either (ltb b 48)) [
      | inl t ↦ absurd (false≢true (rw t at e))
      | inr t ↦ le-leb 33 b (omega (arith, ltb-false b 48 t))
    ]

pub digits_visible : (n : ℕ) → visible (digits n) ≡ true
digits_visible n = all_as is_digit (λ b. leb 33 b) digit_visible (digits n) (digits_all n)

key_byte_visible : (b : ℕ) → is_key_byte b ≡ true → leb 33 b ≡ true
unfolding is_key_byte
key_byte_visible b e =
    elim (either (ltb b 33)) [
      | inl t ↦ absurd (false≢true (rw t at e))
      | inr t ↦ le-leb 33 b (ltb-false b 33 t)
    ]

pub key_visible : (k : List ℕ) → is_key k ≡ true → visible k ≡ true
key_visible k e = all_as is_key_byte (λ b. leb 33 b) key_byte_visible k (prefix_bytes k (key_prefix k e))

-- ## Fields

-- A tab ends a field.
field_tab : (f s : List ℕ) → without 9 f ≡ true → fields (f ++ 9 ∷ s) ≡ f ∷ fields s
field_tab [] s e = refl
field_tab (b ∷ f) s e =
    rw (not-true (eqb b 9) (and_l _ _ e)) (first_more b f (fields s) (fields (f ++ 9 ∷ s)) (field_tab f s (and_r (not (eqb b 9)) _ e)))

field_last : (f : List ℕ) → without 9 f ≡ true → fields f ≡ f ∷ []
field_last [] e = refl
field_last (b ∷ f) e = rw (not-true (eqb b 9) (and_l _ _ e)) (first_more b f [] (fields f) (field_last f (and_r (not (eqb b 9)) _ e)))

without_back : (f : List ℕ) (fs : List (List ℕ)) → without 9 f ≡ true → all (without 9) fs ≡ true → fields (f ++ tabbed fs) ≡ f ∷ fs
without_back f [] e d = rw append-nil (field_last f e)
without_back f (g ∷ gs) e d =
    field_tab f (g ++ tabbed gs) e ∙ ap (λ (l : List (List ℕ)). f ∷ l) (without_back g gs (and_l _ _ d) (and_r (without 9 g) _ d))

-- Fields parted by tabs are read back.
pub fields_back : (f : List ℕ) (fs : List (List ℕ)) → visible f ≡ true → all visible fs ≡ true → fields (f ++ tabbed fs) ≡ f ∷ fs
fields_back f fs e d = without_back f fs (visible_without 9 (omega arith) f e) (all_as visible (without 9) (visible_without 9 (omega arith)) fs d)

-- ## Lines

-- A line feed ends a line.
line_feed : (l rest : List ℕ) → without 10 l ≡ true → lines_of (l ++ 10 ∷ rest) ≡ l ∷ lines_of rest
line_feed [] rest e = refl
line_feed (b ∷ l) rest e =
    rw (not-true (eqb b 10) (and_l _ _ e)) (first_more b l (lines_of rest) (lines_of (l ++ 10 ∷ rest)) (line_feed l rest (and_r (not (eqb b 10)) _ e)))

feed_behind : (l rest : List ℕ) → without 10 l ≡ true → feed_at (l ++ 10 ∷ rest) ≡ length l
feed_behind [] rest e = refl
feed_behind (b ∷ l) rest e = rw (not-true (eqb b 10) (and_l _ _ e)) (ap suc (feed_behind l rest (and_r (not (eqb b 10)) _ e)))

tabbed_without : (fs : List (List ℕ)) → all (without 10) fs ≡ true → without 10 (tabbed fs) ≡ true
tabbed_without [] e = refl
tabbed_without (f ∷ fs) e = all_append (λ b. not (eqb b 10)) f (tabbed fs) (and_l _ _ e) (tabbed_without fs (and_r (without 10 f) _ e))

module _ (f : List ℕ) (fs : List (List ℕ)) (rest : List ℕ) (e : visible f ≡ true) (d : all visible fs ≡ true) where
  no_feed : without 10 (f ++ tabbed fs) ≡ true
  no_feed =
      all_append (λ b. not (eqb b 10)) f (tabbed fs) (visible_without 10 (omega arith) f e)
      (tabbed_without fs (all_as visible (without 10) (visible_without 10 (omega arith)) fs d))

  -- A line of such fields is the first line of whatever it begins.
  pub first_line_lem : first_line ((f ++ tabbed fs) ++ 10 ∷ rest) ≡ f ++ tabbed fs
  first_line_lem = rw (feed_behind (f ++ tabbed fs) rest no_feed) (take_at (f ++ tabbed fs) (10 ∷ rest) (length (f ++ tabbed fs)) refl)

  -- The lines behind it are those of the rest.
  pub line_back : lines_of ((f ++ tabbed fs) ++ 10 ∷ rest) ≡ (f ++ tabbed fs) ∷ lines_of rest
  line_back = line_feed (f ++ tabbed fs) rest no_feed
