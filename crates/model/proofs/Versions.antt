-- The rows with one version number, through each change of the table.
use Prim.Native.Nat.{ℕ, ◌+◌, ◌≤◌, ◌<◌}
use mathlib.Core.Path.{◌≡◌, refl, sym, ◌∙◌, ap, ap₂}
use mathlib.Core.Logic.{◌⊎◌, inl, inr}
use mathlib.Core.Bool.{Bool, true, false, not, ◌&&◌, true≢false, false≢true}
use mathlib.Core.List.{List, [], ◌∷◌, ◌++◌, nil≢cons, cons≢nil, head-eq_of_cons-eq, tail-eq_of_cons-eq}
use Rattle.std.specs.Prelude.{Option, Some, None}
use native.Mathlib.Omega.{arith}
use lib.Dec.{eqb}
use borrow.Author.Tests.{eqb-true, eqb-false, eq-eqb, ne_eqb}
use Rattle.buffers.specs.Choices.{pick}
use Rattle.buffers.specs.Lists.{keep, first, change, same}
use Rattle.buffers.proofs.Tests.{either, and_i, and_r}
use Rattle.buffers.proofs.Lists.{keep_yes, keep_no, keep_append, keep_head, keep_keep, keep_change, same_refl}
use Rattle.calendar.specs.declared.Now.{Now}
use Rattle.model.specs.Rows.{Row, is_data, before}
use Rattle.model.specs.Settings.{Rule}
use Rattle.model.specs.Requests.{Name}
use Rattle.model.specs.Locks.{locked}
use Rattle.model.specs.declared.Fate.{Fate}
use Rattle.model.specs.declared.Fate.TheVariants.{Stays, Goes, Gains}
use Rattle.model.specs.Sweep.{marker, applying, due, fate, in_place, marks, swept, counted}
use Rattle.model.specs.Effects.{row_of, same_version, is_named, insert_by_key}
use Rattle.model.specs.LockClause.{versions}

-- The row has the number that it is found by.
pub number_is : (v : ℕ) (xs : List Row) (x : Row) → versions v xs ≡ x ∷ [] → x.number ≡ v
number_is v xs x e = eqb-true x.number v (keep_head (λ (y : Row). eqb y.number v) xs x [] e)

-- The versions of a table with one row in front.
cons_yes : (v : ℕ) (x : Row) (xs : List Row) → eqb x.number v ≡ true → versions v (x ∷ xs) ≡ x ∷ versions v xs
cons_yes v x xs e = keep_yes (λ (y : Row). eqb y.number v) x xs e

cons_no : (v : ℕ) (x : Row) (xs : List Row) → eqb x.number v ≡ false → versions v (x ∷ xs) ≡ versions v xs
cons_no v x xs e = keep_no (λ (y : Row). eqb y.number v) x xs e

-- No row of a table with this number: the first has it not, and none of the others.
pub cons_none : (v : ℕ) (x : Row) (xs : List Row) → versions v (x ∷ xs) ≡ [] → (eqb x.number v ≡ false) × (versions v xs ≡ [])
cons_none v x xs h =
    elim (either (eqb x.number v)) [
      | inl u ↦ absurd (cons≢nil (sym (cons_yes v x xs u) ∙ h))
      | inr u ↦ (u, sym (cons_no v x xs u) ∙ h)
    ]

-- ## Insertion

pub insert_other : (v : ℕ) (x : Row) (xs : List Row) → eqb x.number v ≡ false → versions v (insert_by_key x xs) ≡ versions v xs
insert_other v x [] e = simp e
insert_other v x (y ∷ ys) e =
    elim (either (before y.key x.key)) [
      | inl t ↦ elim (either (eqb y.number v)) [
        | inl u ↦ simp (t, u) (ap (λ (l : List Row). y ∷ l) (insert_other v x ys e))
        | inr u ↦ simp (t, u) (insert_other v x ys e)
      ]
      | inr t ↦ simp (t, e)
    ]

pub insert_new : (v : ℕ) (x : Row) (xs : List Row) → eqb x.number v ≡ true → versions v xs ≡ [] → versions v (insert_by_key x xs) ≡ x ∷ []
insert_new v x [] e h = simp e
insert_new v x (y ∷ ys) e h =
    let other = cons_none v y ys h in
    elim (either (before y.key x.key)) [
      | inl t ↦ simp (t, other.0) (insert_new v x ys e other.1)
      | inr t ↦ simp (t, e) (ap (λ (l : List Row). x ∷ l) h)
    ]

-- ## The named row

-- A row that is found is among those of its number.
pub found_some : (p : Row → Bool) (xs : List Row) (x : Row) → first p xs ≡ Some x → versions x.number xs ≡ [] → ⊥
found_some p [] x e h = let z : ◌≡◌ {A = ℕ} 0 1 = cc in omega arith
found_some p (y ∷ ys) x e h =
    let other = cons_none x.number y ys h in
    elim (either (p y)) [
      | inl t ↦
          let g : Some y ≡ Some x = rw t at e in
          let q : y ≡ x = cc in
          true≢false (sym (eq-eqb y.number x.number (ap (λ (r : Row). r.number) q)) ∙ other.0)
      | inr t ↦ found_some p ys x (rw t at e) other.1
    ]

-- Where its number stands once, the row that is found is that one.
pub found_one : (p : Row → Bool) (xs : List Row) (x y : Row) → first p xs ≡ Some x → versions x.number xs ≡ y ∷ [] → x ≡ y
found_one p [] x y e h = absurd (nil≢cons h)
found_one p (z ∷ zs) x y e h =
    elim (either (p z)) [
      | inl t ↦
          let g : Some z ≡ Some x = rw t at e in
          let q : z ≡ x = cc in
          sym q ∙ head-eq_of_cons-eq (sym (cons_yes x.number z zs (eq-eqb z.number x.number (ap (λ (r : Row). r.number) q))) ∙ h)
      | inr t ↦ elim (either (eqb z.number x.number)) [
        | inl u ↦ absurd (found_some p zs x (rw t at e) (tail-eq_of_cons-eq (sym (cons_yes x.number z zs u) ∙ h)))
        | inr u ↦ found_one p zs x y (rw t at e) (sym (cons_no x.number z zs u) ∙ h)
      ]
    ]

-- Where the only row of a version is the one that is named, that row is found.
pub named_row_lem : (v : ℕ) (xs : List Row) (n : Name) (x : Row) → versions v xs ≡ x ∷ [] → is_named xs n x ≡ true → row_of xs n ≡ Some x
named_row_lem v xs n x e t = go (row_of xs n) refl t
  where
    go : (o : Option Row) → row_of xs n ≡ o → is_named xs n x ≡ true → row_of xs n ≡ Some x
    go None q t = absurd (false≢true (rw q at t))
    go (Some z) q t =
        let s : same_version z x ≡ true = rw q at t in
        let m : z.number ≡ v = eqb-true z.number x.number (and_r (same z.key x.key) _ s) ∙ number_is v xs x e in
        let w : versions z.number xs ≡ x ∷ [] = rw m e in
        q ∙ ap (λ (r : Row). Some r) (found_one _ xs z x q w)

-- A row that is found is the one that is named.
pub found_named : (xs : List Row) (n : Name) (x : Row) → row_of xs n ≡ Some x → is_named xs n x ≡ true
found_named xs n x e = rw e (and_i (same x.key x.key) _ (same_refl x.key) (eq-eqb x.number x.number refl))

-- ## Changes in place, and removal

pub change_version : (v : ℕ) (q : Row → Bool) (f : Row → Row) → ((y : Row) → (f y).number ≡ y.number) → (xs : List Row) (x : Row) → versions v xs ≡ x ∷ [] → versions v (change q f xs) ≡ pick (q x) (f x) x ∷ []
change_version v q f stable xs x e =
    keep_change (λ (y : Row). eqb y.number v) q f (λ y. ap (λ (n : ℕ). eqb n v) (stable y)) xs ∙ rw e

pub change_none : (v : ℕ) (q : Row → Bool) (f : Row → Row) → ((y : Row) → (f y).number ≡ y.number) → (xs : List Row) → versions v xs ≡ [] → versions v (change q f xs) ≡ []
change_none v q f stable xs e =
    keep_change (λ (y : Row). eqb y.number v) q f (λ y. ap (λ (n : ℕ). eqb n v) (stable y)) xs ∙ rw e

pub keep_version : (v : ℕ) (q : Row → Bool) (xs : List Row) (x : Row) → versions v xs ≡ x ∷ [] → versions v (keep q xs) ≡ pick (q x) (x ∷ []) []
keep_version v q xs x e = keep_keep (λ (y : Row). eqb y.number v) q xs ∙ rw e

pub keep_none : (v : ℕ) (q : Row → Bool) (xs : List Row) → versions v xs ≡ [] → versions v (keep q xs) ≡ []
keep_none v q xs e = keep_keep (λ (y : Row). eqb y.number v) q xs ∙ rw e

-- ## The sweep

-- A row goes only if it is not locked without bypass.
noncurrent_goes : (a b : Bool) → pick (a && not b) Goes Stays ≡ Goes → b ≡ false
noncurrent_goes true true e = cc
noncurrent_goes true false e = refl
noncurrent_goes false b e = cc

current_stays : (a : Bool) → pick a Gains Stays ≡ Goes → ⊥
current_stays true e = let z : ◌≡◌ {A = ℕ} 0 1 = cc in omega arith
current_stays false e = let z : ◌≡◌ {A = ℕ} 0 1 = cc in omega arith

goes_unlocked : (rules : List Rule) (now : ℕ) (y : Option Row) (x : Row) → fate rules now y x ≡ Goes → locked now false x ≡ false
goes_unlocked rules now None x e =
    absurd (current_stays (is_data x && due (λ u. u.current_days) (applying rules x.key) now x.created) e)
goes_unlocked rules now (Some y) x e =
    elim (either (same y.key x.key)) [
      | inl t ↦ noncurrent_goes (due (λ u. u.noncurrent_days) (applying rules x.key) now y.created) (locked now false x) (rw t at e)
      | inr t ↦ absurd (current_stays (is_data x && due (λ u. u.current_days) (applying rules x.key) now x.created) (rw t at e))
    ]

-- The versions after a sweep: those in the first row's place, and those of the rest.
swept_cons : (rules : List Rule) (now : Now) (n : ℕ) (y : Option Row) (x : Row) (xs : List Row) (v : ℕ) (s t : List Row) → versions v (in_place (fate rules now.judge y x) now.stamp n x) ≡ s → versions v (swept rules now (n + marks (fate rules now.judge y x)) (Some x) xs) ≡ t → versions v (swept rules now n y (x ∷ xs)) ≡ s ++ t
swept_cons rules now n y x xs v s t p q =
    keep_append (λ (z : Row). eqb z.number v) (in_place (fate rules now.judge y x) now.stamp n x) _ ∙ ap₂ (λ (i j : List Row). i ++ j) p q

-- The rows in the place of a row of another number have other numbers.
in_place_none : (f : Fate) (made n v : ℕ) (x : Row) → v < n → eqb x.number v ≡ false → versions v (in_place f made n x) ≡ []
in_place_none Stays made n v x l e = simp e
in_place_none Goes made n v x l e = refl
in_place_none Gains made n v x l e = simp (ne_eqb n v (λ q. omega arith), e)

pub swept_none : (rules : List Rule) (now : Now) (n : ℕ) (y : Option Row) (xs : List Row) (v : ℕ) → v < n → versions v xs ≡ [] → versions v (swept rules now n y xs) ≡ []
swept_none rules now n y [] v l h = refl
swept_none rules now n y (x ∷ xs) v l h =
    let other = cons_none v x xs h in
    swept_cons rules now n y x xs v [] []
    (in_place_none (fate rules now.judge y x) now.stamp n v x l other.0)
    (swept_none rules now (n + marks (fate rules now.judge y x)) (Some x) xs v (omega arith) other.1)

-- A sweep leaves of a version's rows: the row, or nothing where it is not locked without bypass.
abbrev pub Left : List Row → ℕ → Row → Type 0
Left ys now x = (ys ≡ x ∷ []) ⊎ ((ys ≡ []) × (locked now false x ≡ false))

in_place_version : (rules : List Rule) (now : Now) (n : ℕ) (y : Option Row) (x : Row) (v : ℕ) (f : Fate) → fate rules now.judge y x ≡ f → v < n → eqb x.number v ≡ true → Left (versions v (in_place f now.stamp n x)) now.judge x
in_place_version rules now n y x v Stays g l e = inl (simp e)
in_place_version rules now n y x v Goes g l e = inr (refl, goes_unlocked rules now.judge y x g)
in_place_version rules now n y x v Gains g l e = inl (simp (ne_eqb n v (λ q. omega arith), e))

pub swept_version : (rules : List Rule) (now : Now) (n : ℕ) (y : Option Row) (xs : List Row) (v : ℕ) (x : Row) → v < n → versions v xs ≡ x ∷ [] → Left (versions v (swept rules now n y xs)) now.judge x
swept_version rules now n y [] v x l h = absurd (nil≢cons h)
swept_version rules now n y (z ∷ zs) v x l h =
    elim (either (eqb z.number v)) [
      | inl u ↦
          let here : z ∷ versions v zs ≡ x ∷ [] = sym (cons_yes v z zs u) ∙ h in
          let rest = swept_none rules now (n + marks (fate rules now.judge y z)) (Some z) zs v (omega arith) (tail-eq_of_cons-eq here) in
          elim (in_place_version rules now n y z v (fate rules now.judge y z) refl l u) [
            | inl a ↦ inl (swept_cons rules now n y z zs v (z ∷ []) [] a rest ∙ ap (λ (w : Row). w ∷ []) (head-eq_of_cons-eq here))
            | inr a ↦ inr (swept_cons rules now n y z zs v [] [] a.0 rest, rw (head-eq_of_cons-eq here) at a.1)
          ]
      | inr u ↦
          let gone = in_place_none (fate rules now.judge y z) now.stamp n v z l u in
          elim (swept_version rules now (n + marks (fate rules now.judge y z)) (Some z) zs v x (omega arith) (sym (cons_no v z zs u) ∙ h)) [
            | inl a ↦ inl (swept_cons rules now n y z zs v [] (x ∷ []) gone a)
            | inr a ↦ inr (swept_cons rules now n y z zs v [] [] gone a.0, a.1)
          ]
    ]

-- A number that is not taken yet: after the sweep no row has it, or a new marker has and it is taken.
abbrev pub Taken : List Row → ℕ → ℕ → Type 0
Taken ys v next = ((ys ≡ []) × (next ≤ v)) ⊎ ((m : Row) × (ys ≡ m ∷ []) × (m.kind ≡ 2) × (v < next))

in_place_new : (f : Fate) (made n v : ℕ) (x : Row) → n ≤ v → eqb x.number v ≡ false → Taken (versions v (in_place f made n x)) v (n + marks f)
in_place_new Stays made n v x l e = inl (simp e, omega arith)
in_place_new Goes made n v x l e = inl (refl, omega arith)
in_place_new Gains made n v x l e =
    elim (either (eqb n v)) [
      | inl t ↦ inr (marker made n x.key, simp (t, e), refl, omega (arith, eqb-true n v t))
      | inr t ↦ inl (simp (t, e), omega (arith, eqb-false n v t))
    ]

pub swept_new : (rules : List Rule) (now : Now) (n : ℕ) (y : Option Row) (xs : List Row) (v : ℕ) → n ≤ v → versions v xs ≡ [] → Taken (versions v (swept rules now n y xs)) v (n + counted marks rules now.judge y xs)
swept_new rules now n y [] v l h = inl (refl, omega arith)
swept_new rules now n y (x ∷ xs) v l h =
    let other = cons_none v x xs h in
    elim (in_place_new (fate rules now.judge y x) now.stamp n v x l other.0) [
      | inl a ↦ elim (swept_new rules now (n + marks (fate rules now.judge y x)) (Some x) xs v a.1 other.1) [
        | inl b ↦ inl (swept_cons rules now n y x xs v [] [] a.0 b.0, omega arith)
        | inr b ↦ inr (b.0, swept_cons rules now n y x xs v [] (b.0 ∷ []) a.0 b.1, b.2, omega arith)
      ]
      | inr a ↦
          let rest = swept_none rules now (n + marks (fate rules now.judge y x)) (Some x) xs v a.3 other.1 in
          inr (a.0, swept_cons rules now n y x xs v (a.0 ∷ []) [] a.1 rest, a.2, omega arith)
    ]
