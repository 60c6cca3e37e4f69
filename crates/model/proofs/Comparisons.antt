-- The different keys of a list: how many there are, and that in a table in order they are counted where a key begins.
use Prim.Native.Nat.{ℕ, ◌+◌, ◌≤◌, ◌<◌}
use mathlib.Core.Path.{◌≡◌, refl, sym, ◌∙◌, ap}
use mathlib.Core.Logic.{inl, inr}
use mathlib.Core.Bool.{Bool, true, false, not, ◌||◌, false≢true}
use mathlib.Core.List.{List, [], ◌∷◌}
use Rattle.std.specs.Prelude.{Option, Some, None}
use native.Mathlib.Omega.{arith}
use lib.ListN.{length}
use borrow.Author.Tests.{not-true}
use Rattle.buffers.specs.Choices.{pick}
use Rattle.buffers.specs.Lists.{keep, all, any, same}
use Rattle.buffers.specs.Texts.{bytes}
use Rattle.buffers.proofs.Tests.{either, clash, and_l, and_r, or_l, or_r, or_one, or_none}
use Rattle.buffers.proofs.Lists.{keep_most, same_refl, same_path}
use Rattle.model.specs.Rows.{Row, before, ahead, ordered}
use Rattle.model.specs.Settings.{Rule, absent_rule}
use Rattle.model.specs.Comparisons.{row_keys, is_among, different, comparisons, all_differ, Different}
use Rattle.model.proofs.Order.{before_or, ahead_asym, version_row}

-- ## The different keys

-- A key that is passed over stands again behind it, so none is lost.
different_same : (ks : List (List ℕ)) (j : List ℕ) → is_among j (different ks) ≡ is_among j ks
different_same [] j = refl
different_same (k ∷ ks) j =
    elim (either (is_among k ks)) [
      | inl t ↦ elim (either (same j k)) [
        | inl s ↦ simp (t, s) (different_same ks j ∙ rw (same_path j k s) t)
        | inr s ↦ simp (t, s) (different_same ks j)
      ]
      | inr t ↦ rw t (ap (λ (b : Bool). same j k || b) (different_same ks j))
    ]

-- A key is taken only where it does not stand again.
different_once : (ks : List (List ℕ)) → all_differ (different ks) ≡ true
different_once [] = refl
different_once (k ∷ ks) =
    elim (either (is_among k ks)) [
      | inl t ↦ rw t (different_once ks)
      | inr t ↦ simp (t, different_same ks k) (different_once ks)
    ]

-- The different keys are the list's own, none of them twice.
pub different_are : (ks : List (List ℕ)) → Different ks (different ks)
different_are ks = record { same_keys = different_same ks; once = different_once ks }

-- ## As many, whatever the order

module _ {A : Type 0} (p : A → Bool) where
  -- What passes a test is there still where a wider one keeps.
  any_keep : (q : A → Bool) → ((x : A) → p x ≡ true → q x ≡ true) → (xs : List A) → any p xs ≡ true → any p (keep q xs) ≡ true
  any_keep q f [] e = e
  any_keep q f (x ∷ xs) e =
      elim (or_one (p x) _ e) [
        | inl t ↦ rw (f x t) (or_l (p x) _ t)
        | inr t ↦ elim (either (q x)) [
          | inl u ↦ rw u (or_r (p x) _ (any_keep q f xs t))
          | inr u ↦ rw u (any_keep q f xs t)
        ]
      ]

-- Without what passes a test, where something does, a list is shorter.
keep_fewer : {A : Type 0} (p : A → Bool) (xs : List A) → any p xs ≡ true → length (keep (λ x. not (p x)) xs) < length xs
keep_fewer p [] e = absurd (false≢true e)
keep_fewer p (x ∷ xs) e =
    elim (either (p x)) [
      | inl t ↦ rw t (omega (arith, keep_most (λ y. not (p y)) xs))
      | inr t ↦ rw t (omega (arith, keep_fewer p xs (rw t at e)))
    ]

-- A key that is not in a list differs from one that is.
among_other : (j k : List ℕ) (ks : List (List ℕ)) → is_among j ks ≡ false → is_among k ks ≡ true → same j k ≡ false
among_other j k ks n e =
    elim (either (same j k)) [
      | inl s ↦ absurd (clash (is_among k ks) e (rw (same_path j k s) at n))
      | inr s ↦ s
    ]

-- A list without a key twice is no longer than one that has all its keys.
differ_most : (ds es : List (List ℕ)) → all_differ ds ≡ true → ((k : List ℕ) → is_among k ds ≡ true → is_among k es ≡ true) → length ds ≤ length es
differ_most [] es o f = omega arith
differ_most (d ∷ ds) es o f =
    let other : List ℕ → Bool = λ j. not (same d j) in
    let apart : (k j : List ℕ) → is_among k ds ≡ true → same k j ≡ true → other j ≡ true =
    λ k j e s. rw (← same_path k j s, among_other d k ds (not-true (is_among d ds) (and_l _ _ o)) e) in
    let less : length (keep other es) < length es = keep_fewer (same d) es (f d (or_l (same d d) _ (same_refl d))) in
    let rest : length ds ≤ length (keep other es) =
    differ_most ds (keep other es) (and_r (not (is_among d ds)) _ o) (λ k e. any_keep (same k) other (λ j. apart k j e) es (f k (or_r (same k d) _ e))) in
    omega (arith, less, rest)

-- Any list of the same keys without one twice has as many.
pub different_many : (ks ds : List (List ℕ)) → Different ks ds → length ds ≡ length (different ks)
different_many ks ds d =
    let le : length ds ≤ length (different ks) = differ_most ds (different ks) d.once (λ k e. different_same ks k ∙ sym (d.same_keys k) ∙ e) in
    let ge : length (different ks) ≤ length ds = differ_most (different ks) ds (different_once ks) (λ k e. d.same_keys k ∙ sym (different_same ks k) ∙ e) in
    omega (arith, le, ge)

-- ## Where keys begin

-- How many of the rows after y have another key than the row before them.
abbrev pub beginnings : Option Row → List Row → ℕ
beginnings y [] = 0
beginnings None (x ∷ xs) = 1 + beginnings (Some x) xs
beginnings (Some y) (x ∷ xs) = pick (same y.key x.key) 0 1 + beginnings (Some x) xs

-- No row goes back to an earlier key.
pub ordered_back : (x y : Row) → ahead x y ≡ true → before y.key x.key ≡ false
ordered_back x y a = (or_none (before y.key x.key) _ (ahead_asym x y a)).0

-- A row of another key than the row ahead of it has a later one.
ahead_later : (x y : Row) → ahead x y ≡ true → same x.key y.key ≡ false → before x.key y.key ≡ true
ahead_later x y a s =
    elim (before_or y.key x.key (ordered_back x y a)) [
      | inl b ↦ b
      | inr t ↦ absurd (clash (same x.key y.key) t s)
    ]

-- A key before a row's is not among the keys behind that row.
keys_passed : (k : List ℕ) (y : Row) (zs : List Row) → before k y.key ≡ true → all (ahead y) zs ≡ true → is_among k (row_keys zs) ≡ false
keys_passed k y [] b a = refl
keys_passed k y (z ∷ zs) b a =
    elim (either (same k z.key)) [
      | inl s ↦ absurd (clash (before k y.key) b (rw (← same_path k z.key s) at (ordered_back y z (and_l _ _ a))))
      | inr s ↦ rw s (keys_passed k y zs b (and_r (ahead y z) _ a))
    ]

-- The rows of the first row's key stand at the front, so that it stands again only if it stands in the next row.
keys_behind : (x y : Row) (ys : List Row) → ordered (x ∷ y ∷ ys) ≡ true → is_among x.key (row_keys (y ∷ ys)) ≡ same x.key y.key
keys_behind x y ys o =
    elim (either (same x.key y.key)) [
      | inl s ↦ rw s
      | inr s ↦ rw s (keys_passed x.key y ys
          (ahead_later x y (and_l (ahead x y) _ (and_l (all (ahead x) (y ∷ ys)) _ o)) s)
          (and_l (all (ahead y) ys) _ (and_r (all (ahead x) (y ∷ ys)) _ o)))
    ]

-- In a table in order there are as many different keys as places where one begins.
pub different_ordered : (xs : List Row) → ordered xs ≡ true → length (different (row_keys xs)) ≡ beginnings None xs
different_ordered [] o = refl
different_ordered (x ∷ []) o = refl
different_ordered (x ∷ y ∷ ys) o =
    let rest = different_ordered (y ∷ ys) (and_r (all (ahead x) (y ∷ ys)) _ o) in
    elim (either (same x.key y.key)) [
      | inl s ↦ rw (keys_behind x y ys o, s) (omega (arith, rest))
      | inr s ↦ rw (keys_behind x y ys o, s) (omega (arith, rest))
    ]

-- ## Examples

-- A key that stands twice is counted once.
pub two_keys_lem : length (different (bytes "a" ∷ bytes "b" ∷ bytes "a" ∷ [])) ≡ 2
two_keys_lem = refl

-- A rule with these days.
abbrev rule_for : ℕ → ℕ → Rule
rule_for current noncurrent = record { prefix = bytes "a"; current_days = current; noncurrent_days = noncurrent }

-- Two rules that are set and one that is not, on three rows of two keys: a rule that is not set compares nothing.
pub four_comparisons : comparisons (rule_for 1 0 ∷ absent_rule ∷ rule_for 0 1 ∷ []) (version_row (bytes "a") 3 ∷ version_row (bytes "a") 1 ∷ version_row (bytes "b") 2 ∷ []) ≡ 4
unfolding comparisons
four_comparisons = refl
