-- Laws of lists: of what `specs/Lists.antt` defines, and of parts of parts.
use Prim.Native.Nat.{ℕ, zero, suc, ◌+◌, ◌-◌, ◌≤◌, ◌<◌, min}
use mathlib.Core.Path.{◌≡◌, refl, sym, ◌∙◌, ap, ap₂}
use mathlib.Core.Logic.{inl, inr}
use mathlib.Core.Bool.{Bool, true, false, not, ◌&&◌, false≢true, and-false, and_comm}
use mathlib.Core.List.{List, [], ◌∷◌, ◌++◌, append-nil, map}
use Rattle.std.specs.Prelude.{Option, Some, None}
use native.Mathlib.Omega.{arith}
use native.Mathlib.Numerals.{unary_clauses}
use lib.Dec.{eqb}
use lib.ListN.{length, get_or, take, drop, set}
use lib.Seq.{take-nil}
use borrow.Author.Tests.{eqb-true, eq-eqb, not-true}
use Rattle.buffers.specs.Choices.{pick}
use Rattle.buffers.specs.Lists.{keep, first, change, all, any, total, same}
use Rattle.buffers.proofs.Tests.{either, and_i, and_l, and_r, or_l, or_r, test_sym}

module _ {A : Type 0} where
  -- ## The elements that pass a test

  pub keep_yes : (p : A → Bool) (x : A) (xs : List A) → p x ≡ true → keep p (x ∷ xs) ≡ x ∷ keep p xs
  keep_yes p x xs e = rw e

  pub keep_no : (p : A → Bool) (x : A) (xs : List A) → p x ≡ false → keep p (x ∷ xs) ≡ keep p xs
  keep_no p x xs e = rw e

  pub keep_append : (p : A → Bool) (xs ys : List A) → keep p (xs ++ ys) ≡ keep p xs ++ keep p ys
  keep_append p [] ys = refl
  keep_append p (x ∷ xs) ys =
      elim (either (p x)) [
        | inl e ↦ rw e (ap (λ (l : List A). x ∷ l) (keep_append p xs ys))
        | inr e ↦ rw e (keep_append p xs ys)
      ]

  -- A list is no shorter than what a test keeps of it.
  pub keep_most : (p : A → Bool) (xs : List A) → length (keep p xs) ≤ length xs
  keep_most p [] = omega arith
  keep_most p (x ∷ xs) =
      elim (either (p x)) [
        | inl t ↦ rw t (omega (arith, keep_most p xs))
        | inr t ↦ rw t (omega (arith, keep_most p xs))
      ]

  pub keep_as : (p q : A → Bool) → ((x : A) → p x ≡ q x) → (xs : List A) → keep p xs ≡ keep q xs
  keep_as p q f [] = refl
  keep_as p q f (x ∷ xs) = rw (f x, keep_as p q f xs)

  pub keep_both : (p q : A → Bool) (xs : List A) → keep (λ x. p x && q x) xs ≡ keep p (keep q xs)
  keep_both p q [] = refl
  keep_both p q (x ∷ xs) =
      elim (either (q x)) [
        | inr u ↦ simp (u, and-false) (keep_both p q xs)
        | inl u ↦ elim (either (p x)) [
          | inl t ↦ simp (t, u) (ap (λ (l : List A). x ∷ l) (keep_both p q xs))
          | inr t ↦ simp (t, u) (keep_both p q xs)
        ]
      ]

  -- Two tests, in either order.
  pub keep_keep : (p q : A → Bool) (xs : List A) → keep p (keep q xs) ≡ keep q (keep p xs)
  keep_keep p q xs = sym (keep_both p q xs) ∙ keep_as (λ x. p x && q x) (λ x. q x && p x) (λ x. and_comm (p x) (q x)) xs ∙ keep_both q p xs

  -- Keeping first what passes a wider test changes nothing.
  pub keep_narrower : (p q : A → Bool) → ((x : A) → p x ≡ true → q x ≡ true) → (xs : List A) → keep p (keep q xs) ≡ keep p xs
  keep_narrower p q f xs =
      sym (keep_both p q xs) ∙ keep_as (λ x. p x && q x) p (λ x. elim (either (p x)) [
        | inl t ↦ rw (t, f x t)
        | inr t ↦ rw t
      ]) xs

  -- A change that the test does not see.
  pub keep_change : (p q : A → Bool) (f : A → A) → ((x : A) → p (f x) ≡ p x) → (xs : List A) → keep p (change q f xs) ≡ change q f (keep p xs)
  keep_change p q f s [] = refl
  keep_change p q f s (x ∷ xs) =
      elim (either (p x)) [
        | inl t ↦ elim (either (q x)) [
          | inl u ↦ simp (t, u, s x) (ap (λ (l : List A). f x ∷ l) (keep_change p q f s xs))
          | inr u ↦ simp (t, u) (ap (λ (l : List A). x ∷ l) (keep_change p q f s xs))
        ]
        | inr t ↦ elim (either (q x)) [
          | inl u ↦ simp (t, u, s x) (keep_change p q f s xs)
          | inr u ↦ simp (t, u) (keep_change p q f s xs)
        ]
      ]

  -- ## Every element passes a test

  pub all_true : (p : A → Bool) → ((x : A) → p x ≡ true) → (xs : List A) → all p xs ≡ true
  all_true p f [] = refl
  all_true p f (x ∷ xs) = and_i (p x) _ (f x) (all_true p f xs)

  pub all_as : (p q : A → Bool) → ((x : A) → p x ≡ true → q x ≡ true) → (xs : List A) → all p xs ≡ true → all q xs ≡ true
  all_as p q f [] e = refl
  all_as p q f (x ∷ xs) e = and_i (q x) _ (f x (and_l _ _ e)) (all_as p q f xs (and_r (p x) _ e))

  pub all_append : (p : A → Bool) (xs ys : List A) → all p xs ≡ true → all p ys ≡ true → all p (xs ++ ys) ≡ true
  all_append p [] ys e f = f
  all_append p (x ∷ xs) ys e f = and_i (p x) _ (and_l _ _ e) (all_append p xs ys (and_r (p x) _ e) f)

  pub all_front : (p : A → Bool) (xs ys : List A) → all p (xs ++ ys) ≡ true → all p xs ≡ true
  all_front p [] ys e = refl
  all_front p (x ∷ xs) ys e = and_i (p x) _ (and_l _ _ e) (all_front p xs ys (and_r (p x) _ e))

  pub all_middle : (p : A → Bool) (ys : List A) (x : A) (zs : List A) → all p (ys ++ x ∷ zs) ≡ true → p x ≡ true
  all_middle p [] x zs e = and_l (p x) _ e
  all_middle p (y ∷ ys) x zs e = all_middle p ys x zs (and_r (p y) _ e)

  -- Every element passes that passes at its place.
  pub all_places : (p : A → Bool) (xs : List A) → ((ys : List A) (x : A) (zs : List A) → xs ≡ ys ++ x ∷ zs → p x ≡ true) → all p xs ≡ true
  all_places p [] f = refl
  all_places p (x ∷ xs) f = and_i (p x) _ (f [] x xs refl) (all_places p xs (λ ys y zs e. f (x ∷ ys) y zs (ap (λ (l : List A). x ∷ l) e)))

  -- A change under which one test becomes another.
  pub all_change : (p r : A → Bool) (q : A → Bool) (f : A → A) → ((x : A) → p x ≡ true → q x ≡ true → r (f x) ≡ true) → ((x : A) → p x ≡ true → r x ≡ true) → (xs : List A) → all p xs ≡ true → all r (change q f xs) ≡ true
  all_change p r q f g h [] e = refl
  all_change p r q f g h (x ∷ xs) e =
      elim (either (q x)) [
        | inl t ↦ rw t (and_i (r (f x)) _ (g x (and_l _ _ e) t) (all_change p r q f g h xs (and_r (p x) _ e)))
        | inr t ↦ rw t (and_i (r x) _ (h x (and_l _ _ e)) (all_change p r q f g h xs (and_r (p x) _ e)))
      ]

  pub all_both : (p q : A → Bool) (xs : List A) → all p xs ≡ true → all q xs ≡ true → all (λ x. p x && q x) xs ≡ true
  all_both p q [] e f = refl
  all_both p q (x ∷ xs) e f = and_i (p x && q x) _ (and_i (p x) _ (and_l _ _ e) (and_l _ _ f)) (all_both p q xs (and_r (p x) _ e) (and_r (q x) _ f))

  -- What is found passes the test that all pass.
  pub all_first : (p q : A → Bool) (xs : List A) (x : A) → all p xs ≡ true → first q xs ≡ Some x → p x ≡ true
  all_first p q [] x e f = cc
  all_first p q (y ∷ ys) x e f =
      elim (either (q y)) [
        | inl t ↦ let g : Some y ≡ Some x = rw t at f in let h : y ≡ x = cc in rw h at (and_l (p y) _ e)
        | inr t ↦ all_first p q ys x (and_r (p y) _ e) (rw t at f)
      ]

  pub all_set : (p : A → Bool) (us : List A) (i : ℕ) (u : A) → p u ≡ true → all p us ≡ true → all p (set us i u) ≡ true
  all_set p [] i u e f = refl
  all_set p (x ∷ xs) zero u e f = rw (e, and_r (p x) _ f)
  all_set p (x ∷ xs) (suc i) u e f = rw (and_l (p x) _ f, all_set p xs i u e (and_r (p x) _ f))

  pub all_take : (p : A → Bool) (i : ℕ) (xs : List A) → all p xs ≡ true → all p (take i xs) ≡ true
  all_take p zero xs e = refl
  all_take p (suc i) [] e = refl
  all_take p (suc i) (x ∷ xs) e = and_i (p x) _ (and_l _ _ e) (all_take p i xs (and_r (p x) _ e))

  pub all_drop : (p : A → Bool) (i : ℕ) (xs : List A) → all p xs ≡ true → all p (drop i xs) ≡ true
  all_drop p zero xs e = e
  all_drop p (suc i) [] e = refl
  all_drop p (suc i) (x ∷ xs) e = all_drop p i xs (and_r (p x) _ e)

  pub all_at : (p : A → Bool) (xs : List A) (i : ℕ) (d : A) → i < length xs → all p xs ≡ true → p (get_or xs i d) ≡ true
  all_at p [] i d h e = absurd (omega arith)
  all_at p (x ∷ xs) zero d h e = and_l (p x) _ e
  all_at p (x ∷ xs) (suc i) d h e = all_at p xs i d (omega arith) (and_r (p x) _ e)

  -- ## What is kept, and what every element passes

  pub keep_every : (p : A → Bool) (xs : List A) → all p xs ≡ true → keep p xs ≡ xs
  keep_every p [] e = refl
  keep_every p (x ∷ xs) e = rw (and_l (p x) _ e) (ap (λ (l : List A). x ∷ l) (keep_every p xs (and_r (p x) _ e)))

  pub keep_nothing : (p : A → Bool) (xs : List A) → all (λ x. not (p x)) xs ≡ true → keep p xs ≡ []
  keep_nothing p [] e = refl
  keep_nothing p (x ∷ xs) e = rw (not-true (p x) (and_l _ _ e)) (keep_nothing p xs (and_r (not (p x)) _ e))

  -- Two tests that are one where a third holds.
  pub keep_among : (r p q : A → Bool) → ((x : A) → r x ≡ true → p x ≡ q x) → (xs : List A) → all r xs ≡ true → keep p xs ≡ keep q xs
  keep_among r p q f [] e = refl
  keep_among r p q f (x ∷ xs) e = rw (f x (and_l (r x) _ e), keep_among r p q f xs (and_r (r x) _ e))

  -- What is kept passes the test.
  pub all_kept : (p : A → Bool) (xs : List A) → all p (keep p xs) ≡ true
  all_kept p [] = refl
  all_kept p (x ∷ xs) =
      elim (either (p x)) [
        | inl t ↦ rw t (and_i (p x) _ t (all_kept p xs))
        | inr t ↦ rw t (all_kept p xs)
      ]

  pub keep_head : (p : A → Bool) (xs : List A) (y : A) (ys : List A) → keep p xs ≡ y ∷ ys → p y ≡ true
  keep_head p xs y ys e = and_l (p y) _ (rw e at (all_kept p xs))

  pub all_keep : (p q : A → Bool) (xs : List A) → all p xs ≡ true → all p (keep q xs) ≡ true
  all_keep p q [] e = refl
  all_keep p q (x ∷ xs) e =
      elim (either (q x)) [
        | inl t ↦ rw t (and_i (p x) _ (and_l _ _ e) (all_keep p q xs (and_r (p x) _ e)))
        | inr t ↦ rw t (all_keep p q xs (and_r (p x) _ e))
      ]

  -- ## Some element passes a test

  pub any_middle : (p : A → Bool) (ys : List A) (x : A) (zs : List A) → p x ≡ true → any p (ys ++ x ∷ zs) ≡ true
  any_middle p [] x zs e = or_l (p x) _ e
  any_middle p (y ∷ ys) x zs e = or_r (p y) _ (any_middle p ys x zs e)

  -- ## The first element that passes a test

  pub first_skip : (p : A → Bool) (xs ys : List A) → all (λ x. not (p x)) xs ≡ true → first p (xs ++ ys) ≡ first p ys
  first_skip p [] ys e = refl
  first_skip p (x ∷ xs) ys e = rw (not-true (p x) (and_l _ _ e)) (first_skip p xs ys (and_r (not (p x)) _ e))

  pub first_none : (p : A → Bool) (xs : List A) → all (λ x. not (p x)) xs ≡ true → first p xs ≡ None
  first_none p xs e = ap (first p) (sym (append-nil xs)) ∙ first_skip p xs [] e

  -- What is found stands behind elements that don't pass.
  pub record FoundAt (p : A → Bool) (xs : List A) (x : A) : Type 0 where
    pub early : List A
    pub late : List A
    pub list_is : xs ≡ early ++ x ∷ late
    pub none_before : all (λ y. not (p y)) early ≡ true

  pub found_at : (p : A → Bool) (xs : List A) (x : A) → first p xs ≡ Some x → FoundAt p xs x
  found_at p [] x e = let z : ◌≡◌ {A = ℕ} 0 1 = cc in absurd (omega arith)
  found_at p (y ∷ ys) x e =
      elim (either (p y)) [
        | inl t ↦
            let g : Some y ≡ Some x = rw t at e in
            let h : y ≡ x = cc in
            record { early = []; late = ys; list_is = ap (λ (z : A). z ∷ ys) h; none_before = refl }
        | inr t ↦
            let r = found_at p ys x (rw t at e) in
            record { early = y ∷ r.early; late = r.late; list_is = ap (λ (l : List A). y ∷ l) r.list_is; none_before = rw t r.none_before }
      ]

  pub first_as : (p q : A → Bool) → ((x : A) → p x ≡ q x) → (xs : List A) → first p xs ≡ first q xs
  first_as p q f [] = refl
  first_as p q f (x ∷ xs) = rw (f x) (ap (λ (r : Option A). pick (q x) (Some x) r) (first_as p q f xs))

  -- ## Sums

  pub total_append : (of : A → ℕ) (xs ys : List A) → total of (xs ++ ys) ≡ total of xs + total of ys
  total_append of [] ys = omega arith
  total_append of (x ∷ xs) ys = let e = total_append of xs ys in omega arith

  -- Of numbers that are the same for every element that passes a test.
  pub total_as : (p : A → Bool) (of by : A → ℕ) → ((x : A) → p x ≡ true → of x ≡ by x) → (xs : List A) → all p xs ≡ true → total of xs ≡ total by xs
  total_as p of by f [] e = refl
  total_as p of by f (x ∷ xs) e = ap₂ (λ (m n : ℕ). m + n) (f x (and_l _ _ e)) (total_as p of by f xs (and_r (p x) _ e))

  -- ## Parts of parts

  pub drop_take : (f t : ℕ) (l : List A) → drop f (take t l) ≡ take (t - f) (drop f l)
  drop_take zero t l = simp unary_clauses
  drop_take (suc f) zero l = let z : zero - suc f ≡ 0 = omega arith in rw z
  drop_take (suc f) (suc t) [] = sym (take-nil (suc t - suc f))
  drop_take (suc f) (suc t) (x ∷ l) = simp unary_clauses (drop_take f t l)

  -- As many as two numbers allow.
  pub take_least : (j k : ℕ) (l : List A) → take (min j k) l ≡ take j (take k l)
  take_least zero k l = simp unary_clauses
  take_least (suc j) zero l = simp unary_clauses
  take_least (suc j) (suc k) [] = take-nil (min (suc j) (suc k))
  take_least (suc j) (suc k) (x ∷ l) = simp unary_clauses (ap (λ (t : List A). x ∷ t) (take_least j k l))

-- ## The images of the elements

module _ {A B : Type 0} (f : A → B) where
  pub keep_map : (p : B → Bool) (xs : List A) → keep p (map f xs) ≡ map f (keep (λ x. p (f x)) xs)
  keep_map p [] = refl
  keep_map p (x ∷ xs) =
      elim (either (p (f x))) [
        | inl t ↦ rw t (ap (λ (l : List B). f x ∷ l) (keep_map p xs))
        | inr t ↦ rw t (keep_map p xs)
      ]

  pub total_map : (of : B → ℕ) (xs : List A) → total of (map f xs) ≡ total (λ x. of (f x)) xs
  total_map of [] = refl
  total_map of (x ∷ xs) = ap (λ (n : ℕ). of (f x) + n) (total_map of xs)

  pub all_map : (p : B → Bool) (xs : List A) → all p (map f xs) ≡ all (λ x. p (f x)) xs
  all_map p [] = refl
  all_map p (x ∷ xs) = ap (λ (b : Bool). p (f x) && b) (all_map p xs)

-- ## The same bytes

pub same_refl : (s : List ℕ) → same s s ≡ true
same_refl [] = refl
same_refl (x ∷ xs) = rw (eq-eqb x x refl) (same_refl xs)

pub same_path : (s t : List ℕ) → same s t ≡ true → s ≡ t
same_path [] [] e = refl
same_path [] (y ∷ ys) e = absurd (false≢true e)
same_path (x ∷ xs) [] e = absurd (false≢true e)
same_path (x ∷ xs) (y ∷ ys) e =
    elim (either (eqb x y)) [
      | inl q ↦ ap₂ (λ (a : ℕ) (l : List ℕ). a ∷ l) (eqb-true x y q) (same_path xs ys (rw q at e))
      | inr q ↦ absurd (false≢true (rw q at e))
    ]

pub same_sym : (s t : List ℕ) → same s t ≡ same t s
same_sym = test_sym same same_path
