-- Facts on conditions and on a list of lines: the first condition that holds, version numbers, and time.
use Rattle.model.specs.declared.Refusal.{Refusal}
use Rattle.model.specs.declared.Refusal.TheVariants.{Unsound, ShortAnswer, Unreadable, HalfGiven, NoRight, PastDate, NoRow, IsMarker, Locked, DateTooLate, NumbersSpent, TableFull, ShortForPage}
use Rattle.model.specs.Refusal.{number_of}
use Prim.Native.Nat.{ℕ, ◌≤◌}
use mathlib.Core.Path.{◌≡◌, refl, sym, ap, ap₂}
use mathlib.Core.Logic.{inl, inr}
use mathlib.Core.Bool.{Bool, true, not, ◌&&◌, and-false}
use mathlib.Core.List.{List, [], ◌∷◌}
use native.Mathlib.Omega.{arith}
use lib.Dec.{eqb, leb}
use borrow.Author.Tests.{eq-eqb, leb-true}
use Rattle.buffers.specs.Choices.{pick}
use Rattle.buffers.specs.Lists.{all, any}
use Rattle.buffers.proofs.Tests.{either, and_l, and_r, or_r}
use Rattle.model.specs.Settings.{Bucket, sound}
use Rattle.model.specs.Requests.{Heard}
use Rattle.model.specs.Refusals.{Check, first_of, FirstHolds}
use Rattle.model.specs.Run.{run, line_events}
use Rattle.model.specs.LockClause.{since, time_after, distinct}
use Rattle.model.proofs.Distinct.{once_differ}
use Rattle.model.proofs.LockClause.{good_history}

-- ## The first condition that holds

abbrev at_most : ℕ → Check → Bool
at_most k x = leb x.number k

pub first_most : (k : ℕ) (xs : List Check) → all (at_most k) xs ≡ true → first_of xs ≤ k
first_most k [] e = omega arith
first_most k (x ∷ xs) e =
    elim (either x.holds) [
      | inl h ↦ rw h (leb-true x.number k (and_l _ _ e))
      | inr h ↦ rw h (first_most k xs (and_r (at_most k x) _ e))
    ]

pub first_holds : (xs : List Check) (n : ℕ) → first_of xs ≡ n → (n ≡ 0 → ⊥) → FirstHolds xs n
first_holds [] n e z = absurd (z (sym e))
first_holds (x ∷ xs) n e z =
    elim (either x.holds) [
      | inl h ↦
          let same : ◌≡◌ {A = Check} x (record { number = n; holds = true }) = ap₂ (λ (m : ℕ) (b : Bool). record { number = m; holds = b }) (rw h at e) h in
          record { before = []; after = xs; at = ap (λ (y : Check). y ∷ xs) same; none_before = refl }
      | inr h ↦
          let s = first_holds xs n (rw h at e) z in
          record { before = x ∷ s.before; after = s.after; at = ap (λ (ys : List Check). x ∷ ys) s.at; none_before = rw h s.none_before }
    ]

-- The number of the first that holds is that of one that holds.
pub first_among : (xs : List Check) (n : ℕ) → first_of xs ≡ n → (n ≡ 0 → ⊥) → any (λ x. eqb x.number n && x.holds) xs ≡ true
first_among [] n e z = absurd (z (sym e))
first_among (x ∷ xs) n e z =
    elim (either x.holds) [
      | inl h ↦ simp (eq-eqb x.number n (rw h at e), h)
      | inr h ↦ or_r (eqb x.number n && x.holds) _ (first_among xs n (rw h at e) z)
    ]

-- the conditions before the one of number n
abbrev until : ℕ → List Check → List Check
until n [] = []
until n (x ∷ xs) = pick (eqb x.number n) [] (x ∷ until n xs)

-- No condition before the first that holds does, whatever its number k.
pub first_passed : (xs : List Check) (k n : ℕ) → first_of xs ≡ n → (n ≡ 0 → ⊥) → all (λ x. not (eqb x.number k && x.holds)) (until n xs) ≡ true
first_passed [] k n e z = refl
first_passed (x ∷ xs) k n e z =
    elim (either x.holds) [
      | inl h ↦ rw (eq-eqb x.number n (rw h at e))
      | inr h ↦ elim (either (eqb x.number n)) [
        | inl t ↦ rw t
        | inr t ↦ simp (t, h, and-false (eqb x.number k)) (first_passed xs k n (rw h at e) z)
      ]
    ]

-- ## Version numbers

-- From numbers that all differ they always do, so from a fresh bucket.
pub always_distinct : (c : ℕ) (b : Bucket) → sound c b ≡ true → distinct b.rows ≡ true → (ls : List Heard) → distinct (run c b ls).rows ≡ true
always_distinct c b s d ls =
    let i = (good_history c b s d ls).invariant in
    once_differ (run c b ls).rows (λ v. elim (i.single v) [ inl e ↦ inl e | inr e ↦ inr (e.0, e.1) ])

-- The bucket's time is that of its history: no accepted line sets it back.
pub always_time : (c : ℕ) (b : Bucket) → sound c b ≡ true → distinct b.rows ≡ true → (ls : List Heard) → (run c b ls).settings.time ≡ time_after (since b (line_events c b ls))
always_time c b s d ls = (good_history c b s d ls).invariant.time

-- Every refusal has a number from 1 on.
pub number_not_0 : (e : Refusal) → number_of e ≡ 0 → ⊥
number_not_0 Unsound h = omega arith
number_not_0 ShortAnswer h = omega arith
number_not_0 Unreadable h = omega arith
number_not_0 HalfGiven h = omega arith
number_not_0 NoRight h = omega arith
number_not_0 PastDate h = omega arith
number_not_0 NoRow h = omega arith
number_not_0 IsMarker h = omega arith
number_not_0 Locked h = omega arith
number_not_0 DateTooLate h = omega arith
number_not_0 NumbersSpent h = omega arith
number_not_0 TableFull h = omega arith
number_not_0 ShortForPage h = omega arith
