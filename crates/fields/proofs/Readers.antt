-- Laws of readers of single fields: the letters of rights, a key in its place.
use Rattle.std.proofs.Common.{ℕ, zero, suc, ◌+◌, ◌-◌, ◌≤◌, ◌<◌, length, get_or, drop, ◌≡◌, refl, sym, ◌∙◌, Bool, true, false, not, ◌&&◌, ◌||◌, List, [], ◌∷◌, Option, Some, None, if◌then◌else◌, arith}
use Rattle.std.proofs.lemmas.Grind.{common_steps}
use Rattle.std.specs.Prelude.{option_and_then}
use mathlib.Core.Logic.{inl, inr}
use Rattle.buffers.proofs.Tests.{either}
use mathlib.Core.Bool.{and-false, or-false, false≢true}
use Rattle.buffers.specs.Texts.{bytes}
use Rattle.buffers.specs.Choices.{pick}
use Rattle.text.specs.Keys.{contains}
use Rattle.text.proofs.Scans.{next}
use Rattle.fields.specs.declared.Rights.{Rights}
use Rattle.buffers.specs.Lists.{same}
use Rattle.buffers.proofs.Lists.{same_path}
use Rattle.fields.specs.Fields.{dash, letters_once, rights_in, with_letter}

-- ## Rights

-- The letters of a text one by one, after those that are held.
abbrev pub letters_from : Rights → List ℕ → Option Rights
letters_from a [] = Some a
letters_from a (b ∷ s) = option_and_then (λ x. letters_from x s) (with_letter a b)

-- None of the letters held stands in the text.
abbrev apart : Rights → List ℕ → Bool
apart a s =
    not (contains s 114 && a.r)
    && (not (contains s 119 && a.w)
    && (not (contains s 100 && a.d)
    && (not (contains s 116 && a.t)
    && (not (contains s 104 && a.h)
    && (not (contains s 98 && a.b) && not (contains s 99 && a.c))))))

-- The letters held and those of the text.
abbrev joined : Rights → List ℕ → Rights
joined a s =
    record {
      r = contains s 114 || a.r;
      w = contains s 119 || a.w;
      d = contains s 100 || a.d;
      t = contains s 116 || a.t;
      h = contains s 104 || a.h;
      b = contains s 98 || a.b;
      c = contains s 99 || a.c;
    }

abbrev all_letters : Rights → List ℕ → Option Rights
all_letters a s = if apart a s && letters_once s then Some (joined a s) else None

-- What holds of each letter of rights holds of a byte that is one.
letter_ways : (P : ℕ → Type 0) → P 114 → P 119 → P 100 → P 116 → P 104 → P 98 → P 99 → (b : ℕ) → contains (bytes "rwdthbc") b ≡ true → P b
letter_ways P pr pw pd pt ph pb pc b e = grind arith

-- A letter is held; or not, and stands in the text; or neither.
held_ways : {A : Type 0} (p q : Bool) → (p ≡ true → A) → (p ≡ false → q ≡ true → A) → (p ≡ false → q ≡ false → A) → A
held_ways true q f g h = f refl
held_ways false true f g h = g refl refl
held_ways false false f g h = h refl refl

module _ (a : Rights) (s : List ℕ) (all : (x : Rights) → letters_from x s ≡ all_letters x s) where
  abbrev Read : ℕ → Type 0
  Read b = letters_from a (b ∷ s) ≡ all_letters a (b ∷ s)

  letter_read : (b : ℕ) → contains (bytes "rwdthbc") b ≡ true → Read b
  unfolding with_letter
  letter_read =
      letter_ways
      Read
      (held_ways a.r (contains s 114) (λ e. simp e) (λ e f. simp (e, f, all, and-false)) (λ e f. simp (e, f, all)))
      (held_ways a.w (contains s 119) (λ e. simp (e, and-false)) (λ e f. simp (e, f, all, and-false)) (λ e f. simp (e, f, all)))
      (held_ways a.d (contains s 100) (λ e. simp (e, and-false)) (λ e f. simp (e, f, all, and-false)) (λ e f. simp (e, f, all)))
      (held_ways a.t (contains s 116) (λ e. simp (e, and-false)) (λ e f. simp (e, f, all, and-false)) (λ e f. simp (e, f, all)))
      (held_ways a.h (contains s 104) (λ e. simp (e, and-false)) (λ e f. simp (e, f, all, and-false)) (λ e f. simp (e, f, all)))
      (held_ways a.b (contains s 98) (λ e. simp (e, and-false)) (λ e f. simp (e, f, all, and-false)) (λ e f. simp (e, f, all)))
      (held_ways a.c (contains s 99) (λ e. simp (e, and-false)) (λ e f. simp (e, f, all, and-false)) (λ e f. simp (e, f, all)))

  no_letter : (b : ℕ) → contains (bytes "rwdthbc") b ≡ false → with_letter a b ≡ None
  unfolding with_letter
  no_letter b e = grind (arith, common_steps)

  other_read : (b : ℕ) → contains (bytes "rwdthbc") b ≡ false → Read b
  other_read b e = rw (no_letter b e) (simp (e, and-false))

letters_are : (s : List ℕ) (a : Rights) → letters_from a s ≡ all_letters a s
letters_are [] a = refl
letters_are (b ∷ s) a =
    elim (either (contains (bytes "rwdthbc") b)) [
      | inl e ↦ letter_read a s (letters_are s) b e
      | inr e ↦ other_read a s (letters_are s) b e
    ]

-- With none held they are the letters that stand in the text, if each stands there once.
pub rights_are : (s : List ℕ) → letters_from (record { r = false; w = false; d = false; t = false; h = false; b = false; c = false }) s ≡ (if letters_once s then Some (rights_in s) else None)
unfolding rights_in
rights_are s = letters_are s (record { r = false; w = false; d = false; t = false; h = false; b = false; c = false }) ∙ simp (and-false, or-false)

pub dash_rights : (s : List ℕ) (r : Bool) → r ≡ same s dash → r ≡ true → record { r = false; w = false; d = false; t = false; h = false; b = false; c = false } ≡ rights_in s
unfolding rights_in
dash_rights s r e t = rw (same_path s dash (sym e ∙ t))

pub ruleset rights_cases = (rights_are, dash_rights)

once_drop : (s : List ℕ) (k : ℕ) → letters_once s ≡ true → letters_once (drop k s) ≡ true
once_drop s zero e = e
once_drop [] (suc k) e = refl
once_drop (b ∷ s) (suc k) e = once_drop s k (go (contains (bytes "rwdthbc") b) (contains s b) e)
  where
    go : (p q : Bool) → pick p (pick q false (letters_once s)) false ≡ true → letters_once s ≡ true
    go true true f = absurd (false≢true f)
    go true false f = f
    go false q f = absurd (false≢true f)

-- Where each letter of a text stands once, the one in front of place i is none of those from i on.
pub bit_before : (s : List ℕ) (i : ℕ) → letters_once s ≡ true → 0 < i → i ≤ length s → contains (drop i s) (get_or s (i - 1) 0) ≡ false
bit_before s i o h w =
    let e : i - 1 + 1 ≡ i = omega arith in
    let here : drop (i - 1) s ≡ get_or s (i - 1) 0 ∷ drop i s = rw e at (next s (i - 1) (omega arith)) in
    go (contains (bytes "rwdthbc") (get_or s (i - 1) 0)) (contains (drop i s) (get_or s (i - 1) 0)) (letters_once (drop i s)) (rw here at (once_drop s (i - 1) o))
  where
    go : (p q r : Bool) → pick p (pick q false r) false ≡ true → q ≡ false
    go true true r f = absurd (false≢true f)
    go true false r f = refl
    go false q r f = absurd (false≢true f)

-- A letter that stands a second time makes the rights none.
pub once_twice : (s : List ℕ) (i : ℕ) → 0 < i → i ≤ length s → contains (drop i s) (get_or s (i - 1) 0) ≡ true → None ≡ (if letters_once s then Some (rights_in s) else None)
once_twice s i h w t =
    elim (either (letters_once s)) [
      | inl o ↦ absurd (false≢true (sym (bit_before s i o h w) ∙ t))
      | inr o ↦ rw o
    ]
