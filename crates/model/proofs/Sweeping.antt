-- The sweep: of one part of the table after the other, that what it adds passes the tests of a marker, and that it keeps the table in order.
use Prim.Native.Nat.{ℕ, suc, ◌+◌, ◌≤◌, ◌<◌}
use mathlib.Core.Path.{◌≡◌, refl, sym, ap}
use mathlib.Core.Logic.{◌⊎◌, inl, inr}
use mathlib.Core.Bool.{Bool, true, false, not, ◌&&◌}
use mathlib.Core.List.{List, [], ◌∷◌, ◌++◌, append_assoc}
use Rattle.std.specs.Prelude.{Option, Some}
use native.Mathlib.Omega.{arith}
use native.Mathlib.Nat.{add-zero, add_assoc}
use lib.Dec.{ltb}
use lib.ListN.{length}
use borrow.Author.Tests.{ltb-true, lt-ltb}
use Rattle.buffers.specs.Choices.{pick}
use Rattle.buffers.specs.Lists.{all, same, total}
use Rattle.buffers.proofs.Tests.{either, clash, and_i, and_l, and_r, or_l, or_r, or_one}
use Rattle.buffers.proofs.Lists.{same_path, same_refl, all_as, all_append}
use Rattle.calendar.specs.declared.Now.{Now}
use Rattle.model.specs.Rows.{Row, before, ahead, ordered}
use Rattle.model.specs.Settings.{Rule}
use Rattle.model.specs.Locks.{locked}
use Rattle.model.specs.declared.Fate.{Fate}
use Rattle.model.specs.declared.Fate.TheVariants.{Stays, Goes, Gains}
use Rattle.model.specs.Sweep.{marker, applying, due, fate, in_place, marks, fates, carried_out, swept, counted}
use Rattle.model.proofs.Order.{before_trans, ahead_trans}

-- ## One part of the table after the other

pub each_fate : (rules : List Rule) (now : ℕ) (y : Option Row) (xs : List Row) → length (fates rules now y xs) ≡ length xs
each_fate rules now y [] = refl
each_fate rules now y (x ∷ xs) = ap suc (each_fate rules now (Some x) xs)

-- The last of the rows, or the one before them if there are none.
abbrev pub last_of : Option Row → List Row → Option Row
last_of o [] = o
last_of o (x ∷ xs) = last_of (Some x) xs

pub last_of_lem : (o : Option Row) (xs : List Row) (x : Row) → last_of o (xs ++ x ∷ []) ≡ Some x
last_of_lem o [] x = refl
last_of_lem o (y ∷ ys) x = last_of_lem (Some y) ys x

fates_append : (rules : List Rule) (now : ℕ) (o : Option Row) (xs ys : List Row) → fates rules now o (xs ++ ys) ≡ fates rules now o xs ++ fates rules now (last_of o xs) ys
fates_append rules now o [] ys = refl
fates_append rules now o (x ∷ xs) ys = ap (λ (fs : List Fate). fate rules now o x ∷ fs) (fates_append rules now (Some x) xs ys)

pub carried_append : (t n : ℕ) (fs gs : List Fate) (xs ys : List Row) → length xs ≡ length fs
    → carried_out t n (fs ++ gs) (xs ++ ys) ≡ carried_out t n fs xs ++ carried_out t (n + total marks fs) gs ys
carried_append t n [] gs [] ys e = let q : n + 0 ≡ n = add-zero n in rw q
carried_append t n [] gs (x ∷ xs) ys e = absurd (omega arith)
carried_append t n (f ∷ fs) gs [] ys e = absurd (omega arith)
carried_append t n (f ∷ fs) gs (x ∷ xs) ys e =
    rw (append_assoc, ← add_assoc) (ap (λ (l : List Row). in_place f t n x ++ l) (carried_append t (n + marks f) fs gs xs ys (omega arith)))

pub swept_append : (rules : List Rule) (now : Now) (n : ℕ) (o : Option Row) (xs ys : List Row)
    → swept rules now n o (xs ++ ys) ≡ swept rules now n o xs ++ swept rules now (n + counted marks rules now.judge o xs) (last_of o xs) ys
swept_append rules now n o xs ys =
    rw (fates_append rules now.judge o xs ys)
    (carried_append now.stamp n (fates rules now.judge o xs) (fates rules now.judge (last_of o xs) ys) xs ys (sym (each_fate rules now.judge o xs)))

-- ## A test that every row passes

in_place_all : (p : Row → Bool) (made lo hi : ℕ) → ((x : Row) (m : ℕ) → p x ≡ true → lo ≤ m → m < hi → p (marker made m x.key) ≡ true) → (n : ℕ) (f : Fate) (x : Row) → lo ≤ n → n + marks f ≤ hi → p x ≡ true → all p (in_place f made n x) ≡ true
in_place_all p made lo hi g n Stays x l u e = and_i (p x) _ e refl
in_place_all p made lo hi g n Goes x l u e = refl
in_place_all p made lo hi g n Gains x l u e = and_i (p (marker made n x.key)) _ (g x n e l (omega arith)) (and_i (p x) _ e refl)

pub all_swept : (p : Row → Bool) (rules : List Rule) (now : Now) (lo hi : ℕ) → ((x : Row) (m : ℕ) → p x ≡ true → lo ≤ m → m < hi → p (marker now.stamp m x.key) ≡ true) → (n : ℕ) (y : Option Row) (xs : List Row) → lo ≤ n → n + counted marks rules now.judge y xs ≤ hi → all p xs ≡ true → all p (swept rules now n y xs) ≡ true
all_swept p rules now lo hi g n y [] l u e = refl
all_swept p rules now lo hi g n y (x ∷ xs) l u e =
    all_append p (in_place (fate rules now.judge y x) now.stamp n x) _
    (in_place_all p now.stamp lo hi g n (fate rules now.judge y x) x l (omega arith) (and_l _ _ e))
    (all_swept p rules now lo hi g (n + marks (fate rules now.judge y x)) (Some x) xs (omega arith) (omega arith) (and_r (p x) _ e))

-- ## Order

no_gain : (a : Bool) → pick a Goes Stays ≡ Gains → ⊥
no_gain true e = let z : ◌≡◌ {A = ℕ} 0 1 = cc in omega arith
no_gain false e = let z : ◌≡◌ {A = ℕ} 0 1 = cc in omega arith

-- A row that gains a marker has another key than the row before it.
gains_current : (rules : List Rule) (now : ℕ) (y x : Row) → fate rules now (Some y) x ≡ Gains → same y.key x.key ≡ false
gains_current rules now y x e =
    elim (either (same y.key x.key)) [
      | inl t ↦ absurd (no_gain (due (λ u. u.noncurrent_days) (applying rules x.key) now y.created && not (locked now false x)) (rw t at e))
      | inr t ↦ t
    ]

-- The key of z is not after that of y.
abbrev Reaches : Row → Row → Type 0
Reaches z y = (before z.key y.key ≡ true) ⊎ (z.key ≡ y.key)

reaches : (z y : Row) → ahead z y ≡ true → Reaches z y
reaches z y e =
    elim (or_one (before z.key y.key) _ e) [
      | inl a ↦ inl a
      | inr a ↦ inr (same_path z.key y.key (and_l _ _ a))
    ]

ahead_marker : (rules : List Rule) (now made n : ℕ) (y z x : Row) → Reaches z y → ahead y x ≡ true → fate rules now (Some y) x ≡ Gains → ahead z (marker made n x.key) ≡ true
ahead_marker rules now made n y z x h e g =
    let b : before y.key x.key ≡ true = elim (or_one (before y.key x.key) _ e) [
      | inl a ↦ a
      | inr a ↦ absurd (clash (same y.key x.key) (and_l _ _ a) (gains_current rules now y x g))
    ] in
    or_l (before z.key x.key) _ (elim h [
      | inl a ↦ before_trans z.key y.key x.key a b
      | inr a ↦ rw a b
    ])

ahead_in_place : (rules : List Rule) (now made n : ℕ) (y z x : Row) (f : Fate) → fate rules now (Some y) x ≡ f → Reaches z y → ahead y x ≡ true → ahead z x ≡ true → all (ahead z) (in_place f made n x) ≡ true
ahead_in_place rules now made n y z x Stays g h e d = and_i (ahead z x) _ d refl
ahead_in_place rules now made n y z x Goes g h e d = refl
ahead_in_place rules now made n y z x Gains g h e d =
    and_i (ahead z (marker made n x.key)) _ (ahead_marker rules now made n y z x h e g) (and_i (ahead z x) _ d refl)

-- A row before the table's rows is before those that the sweep leaves.
ahead_swept : (rules : List Rule) (now : Now) (n : ℕ) (y z : Row) (xs : List Row) → Reaches z y → all (ahead y) xs ≡ true → all (ahead z) xs ≡ true → ordered xs ≡ true → all (ahead z) (swept rules now n (Some y) xs) ≡ true
ahead_swept rules now n y z [] h e d o = refl
ahead_swept rules now n y z (x ∷ xs) h e d o =
    let zx : ahead z x ≡ true = and_l _ _ d in
    all_append (ahead z) (in_place (fate rules now.judge (Some y) x) now.stamp n x) _
    (ahead_in_place rules now.judge now.stamp n y z x (fate rules now.judge (Some y) x) refl h (and_l _ _ e) zx)
    (ahead_swept rules now (n + marks (fate rules now.judge (Some y) x)) x z xs (reaches z x zx) (and_l _ _ o) (and_r (ahead z x) _ d) (and_r (all (ahead x) xs) _ o))

ordered_in_place : (made n : ℕ) (x : Row) (f : Fate) (rest : List Row) → ltb x.number n ≡ true → all (ahead x) rest ≡ true → ordered rest ≡ true → ordered (in_place f made n x ++ rest) ≡ true
ordered_in_place made n x Stays rest l e o = and_i (all (ahead x) rest) _ e o
ordered_in_place made n x Goes rest l e o = o
ordered_in_place made n x Gains rest l e o =
    let m = marker made n x.key in
    let h : ahead m x ≡ true = or_r (before x.key x.key) _ (and_i (same x.key x.key) _ (same_refl x.key) l) in
    and_i (all (ahead m) (x ∷ rest)) _
    (and_i (ahead m x) _ h (all_as (ahead x) (ahead m) (λ z d. ahead_trans m x z h d) rest e))
    (and_i (all (ahead x) rest) _ e o)

pub ordered_swept : (rules : List Rule) (now : Now) (n : ℕ) (y : Option Row) (xs : List Row) → all (λ x. ltb x.number n) xs ≡ true → ordered xs ≡ true → ordered (swept rules now n y xs) ≡ true
ordered_swept rules now n y [] l o = refl
ordered_swept rules now n y (x ∷ xs) l o =
    let k : ℕ = marks (fate rules now.judge y x) in
    let later : all (λ z. ltb z.number (n + k)) xs ≡ true =
    all_as (λ z. ltb z.number n) (λ z. ltb z.number (n + k)) (λ z e. lt-ltb z.number _ (omega (arith, ltb-true z.number n e))) xs (and_r (ltb x.number n) _ l) in
    let xo : all (ahead x) xs ≡ true = and_l _ _ o in
    let oo : ordered xs ≡ true = and_r (all (ahead x) xs) _ o in
    ordered_in_place now.stamp n x (fate rules now.judge y x) _ (and_l _ _ l)
    (ahead_swept rules now (n + k) x x xs (inr refl) xo xo oo)
    (ordered_swept rules now (n + k) (Some x) xs later oo)
