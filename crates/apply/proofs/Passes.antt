-- Laws of the two passes on lists: what is kept, and what is carried out on it.
use Prim.Native.Nat.{ℕ, ◌+◌, ◌-◌, ◌≤◌, ◌<◌}
use mathlib.Core.Path.{◌≡◌, refl, sym, ap, ◌∙◌}
use mathlib.Core.Bool.{true}
use mathlib.Core.List.{List, [], ◌∷◌, ◌++◌, map, append_assoc}
use Rattle.std.proofs.lemmas.List.{get_or-map}
use native.Mathlib.Omega.{arith}
use native.Mathlib.Nat.{add-zero}
use lib.Dec.{leb}
use lib.ListN.{length, get_or, length-append}
use Rattle.buffers.specs.Lists.{total}
use Rattle.buffers.proofs.Tests.{and_l, and_r}
use Rattle.buffers.proofs.Lists.{all_append}
use Rattle.model.specs.Rows.{Row}
use Rattle.model.specs.declared.Fate.{Fate}
use Rattle.model.specs.declared.Fate.TheVariants.{Stays, Goes, Gains}
use Rattle.model.specs.Sweep.{in_place, marker, marks, removes, carried_out}
use Rattle.table.specs.Layout.{keys_fit}
use Rattle.apply.specs.Passes.{kept, unless_gone}

-- ## A fate that is kept

pub read_fate : {A : Type 0} (fate_in : A → Fate) (m : List A) (i : ℕ) (r : A) (f : Fate) → f ≡ fate_in r → r ≡ get_or m i r → i < length m → get_or (map fate_in m) i Stays ≡ f
read_fate fate_in m i r f e g h = get_or-map fate_in m i r Stays h ∙ ap fate_in (sym g) ∙ sym e

-- ## One list after another

pub marks_few : (fs : List Fate) → total marks fs ≤ length fs
marks_few [] = omega arith
marks_few (f ∷ fs) = let e = marks_few fs in let o = one f in omega arith
  where
    one : (f : Fate) → marks f ≤ 1
    one Stays = omega arith
    one Goes = omega arith
    one Gains = omega arith

pub kept_append : {A : Type 0} (fs gs : List Fate) (xs ys : List A) → length xs ≡ length fs → kept (fs ++ gs) (xs ++ ys) ≡ kept fs xs ++ kept gs ys
kept_append [] gs [] ys e = refl
kept_append [] gs (x ∷ xs) ys e = absurd (omega arith)
kept_append (f ∷ fs) gs [] ys e = absurd (omega arith)
kept_append {A} (f ∷ fs) gs (x ∷ xs) ys e = rw append_assoc (ap (λ (l : List A). unless_gone f x ++ l) (kept_append fs gs xs ys (omega arith)))

-- ## What is kept

-- the rows past the fates play no part
pub kept_more : {A : Type 0} (fs : List Fate) (xs ys : List A) → length fs ≡ length xs → kept fs (xs ++ ys) ≡ kept fs xs
kept_more [] xs ys e = refl
kept_more (f ∷ fs) [] ys e = absurd (omega arith)
kept_more {A} (f ∷ fs) (x ∷ xs) ys e = ap (λ (l : List A). unless_gone f x ++ l) (kept_more fs xs ys (omega arith))

-- as many are kept as don't go
pub kept_length : {A : Type 0} (fs : List Fate) (xs : List A) → length xs ≡ length fs → length (kept fs xs) ≡ length xs - total removes fs
kept_length fs xs e = let q = count fs xs e in omega arith
  where
    one : {A : Type 0} (f : Fate) (x : A) → length (unless_gone f x) + removes f ≡ 1
    one Stays x = refl
    one Goes x = refl
    one Gains x = refl

    count : {A : Type 0} (fs : List Fate) (xs : List A) → length xs ≡ length fs → length (kept fs xs) + total removes fs ≡ length xs
    count [] [] e = refl
    count [] (x ∷ xs) e = absurd (omega arith)
    count (f ∷ fs) [] e = absurd (omega arith)
    count (f ∷ fs) (x ∷ xs) e =
        let q = count fs xs (omega arith) in
        let o = one f x in
        let l = length-append (unless_gone f x) (kept fs xs) in
        omega arith

-- where no row goes, all are kept
pub kept_all : {A : Type 0} (fs : List Fate) (xs : List A) → length xs ≡ length fs → total removes fs ≡ 0 → kept fs xs ≡ xs
kept_all [] [] e z = refl
kept_all [] (x ∷ xs) e z = absurd (omega arith)
kept_all (f ∷ fs) [] e z = refl
kept_all {A} (Stays ∷ fs) (x ∷ xs) e z = ap (λ (l : List A). x ∷ l) (kept_all fs xs (omega arith) (omega arith))
kept_all (Goes ∷ fs) (x ∷ xs) e z = absurd (omega arith)
kept_all {A} (Gains ∷ fs) (x ∷ xs) e z = ap (λ (l : List A). x ∷ l) (kept_all fs xs (omega arith) (omega arith))

-- the markers are those of the fates that are kept
pub kept_marks : (fs : List Fate) → total marks (kept fs fs) ≡ total marks fs
kept_marks [] = refl
kept_marks (Stays ∷ fs) = let e = kept_marks fs in omega arith
kept_marks (Goes ∷ fs) = let e = kept_marks fs in omega arith
kept_marks (Gains ∷ fs) = let e = kept_marks fs in omega arith

pub kept_fit : (fs : List Fate) (xs : List Row) → keys_fit xs ≡ true → keys_fit (kept fs xs) ≡ true
kept_fit [] xs e = refl
kept_fit (f ∷ fs) [] e = refl
kept_fit (f ∷ fs) (x ∷ xs) e = all_append _ (unless_gone f x) (kept fs xs) (one f (and_l _ _ e)) (kept_fit fs xs (and_r (leb (length x.key) 63) _ e))
  where
    one : (f : Fate) → leb (length x.key) 63 ≡ true → keys_fit (unless_gone f x) ≡ true
    one Stays k = rw k
    one Goes k = refl
    one Gains k = rw k

-- ## Carrying out

-- The two passes do what carrying out says.
pub two_passes : (t n : ℕ) (fs : List Fate) (xs : List Row) → carried_out t n (kept fs fs) (kept fs xs) ≡ carried_out t n fs xs
two_passes t n [] xs = refl
two_passes t n (Stays ∷ fs) [] = refl
two_passes t n (Goes ∷ fs) [] = none (kept fs fs)
  where
    none : (gs : List Fate) → carried_out t n gs [] ≡ []
    none [] = refl
    none (g ∷ gs) = refl
two_passes t n (Gains ∷ fs) [] = refl
two_passes t n (Stays ∷ fs) (x ∷ xs) = ap (λ (l : List Row). x ∷ l) (two_passes t (n + 0) fs xs)
two_passes t n (Goes ∷ fs) (x ∷ xs) = rw add-zero (two_passes t n fs xs)
two_passes t n (Gains ∷ fs) (x ∷ xs) = ap (λ (l : List Row). marker t n x.key ∷ x ∷ l) (two_passes t (n + 1) fs xs)

pub carried_fit : (t n : ℕ) (fs : List Fate) (xs : List Row) → keys_fit xs ≡ true → keys_fit (carried_out t n fs xs) ≡ true
carried_fit t n [] xs e = refl
carried_fit t n (f ∷ fs) [] e = refl
carried_fit t n (f ∷ fs) (x ∷ xs) e =
    all_append _ (in_place f t n x) (carried_out t (n + marks f) fs xs) (one f (and_l _ _ e)) (carried_fit t (n + marks f) fs xs (and_r (leb (length x.key) 63) _ e))
  where
    one : (f : Fate) → leb (length x.key) 63 ≡ true → keys_fit (in_place f t n x) ≡ true
    one Stays k = rw k
    one Goes k = refl
    one Gains k = rw k

-- where no row goes
pub carried_length : (t n : ℕ) (fs : List Fate) (xs : List Row) → length xs ≡ length (kept fs fs)
    → length (carried_out t n (kept fs fs) xs) ≡ length xs + total marks fs
carried_length t n [] [] e = omega arith
carried_length t n [] (x ∷ xs) e = absurd (omega arith)
carried_length t n (Goes ∷ fs) xs e = let q = carried_length t n fs xs e in omega arith
carried_length t n (Stays ∷ fs) [] e = absurd (omega arith)
carried_length t n (Stays ∷ fs) (x ∷ xs) e = let q = carried_length t (n + 0) fs xs (omega arith) in omega arith
carried_length t n (Gains ∷ fs) [] e = absurd (omega arith)
carried_length t n (Gains ∷ fs) (x ∷ xs) e = let q = carried_length t (n + 1) fs xs (omega arith) in omega arith
