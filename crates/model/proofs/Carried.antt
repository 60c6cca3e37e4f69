-- What holds of the bucket that a history begins with, before the first line.
use Prim.Native.Nat.{ℕ, ◌≤◌}
use mathlib.Core.Path.{◌≡◌, refl, ◌∙◌}
use mathlib.Core.Logic.{inl, inr}
use mathlib.Core.Bool.{Bool, true, false, not, ◌&&◌, false≢true}
use mathlib.Core.List.{List, [], ◌∷◌}
use Rattle.std.specs.Prelude.{Option, Some, None}
use native.Mathlib.Omega.{arith}
use lib.Dec.{eqb, ltb}
use borrow.Author.Tests.{eqb-true, eq-eqb, ne_eqb, ltb-true}
use Rattle.buffers.specs.Choices.{pick, then_some}
use Rattle.buffers.proofs.Tests.{either, and_i, and_l, and_r}
use Rattle.buffers.proofs.Lists.{keep_nothing, all_as, all_keep}
use Rattle.model.specs.Rows.{Row, is_data, is_marker, sound_row, governance, compliance}
use Rattle.model.specs.Settings.{Bucket, sound}
use Rattle.model.specs.Run.{Event}
use Rattle.model.specs.LockClause.{since, making_of, versions, carried, carried_making, carried_under, Making, making_after, making_from, distinct, Held, carried_over, Kept, EachCounts}
use Rattle.model.proofs.SoundRows.{row_data}
use Rattle.model.proofs.Sound.{whole, below_next}
use Rattle.model.proofs.Distinct.{differ_once, differ_alone}
use Rattle.model.proofs.History.{placed_first}
use Rattle.model.proofs.Invariant.{Known, Invariant}
use Rattle.model.proofs.Placing.{held_as, Under}

-- The one row of a version is carried over where it is data.
carried_one : (b : Bucket) (v : ℕ) (x : Row) → versions v b.rows ≡ x ∷ [] → carried b v ≡ pick (is_data x) (Some x) None
carried_one b v x q = rw q

module _ (c : ℕ) (b : Bucket) (s : sound c b ≡ true) (d : distinct b.rows ≡ true) where
  unused : (v : ℕ) → b.settings.next ≤ v → versions v b.rows ≡ []
  unused v l =
      keep_nothing (λ x. eqb x.number v) b.rows
      (all_as (λ x. ltb x.number b.settings.next) (λ x. not (eqb x.number v)) (λ x e. rw (ne_eqb x.number v (λ q. omega (arith, ltb-true x.number b.settings.next e)))) b.rows
      (below_next _ _ b.rows (whole c b s).rows_sound))

  -- It is data, made with what it holds, or a marker.
  known : (v : ℕ) (x : Row) → versions v b.rows ≡ x ∷ [] → Known (since b []) v x
  known v x q =
      let rows = all_keep (sound_row b.settings.next b.settings.time) (λ y. eqb y.number v) b.rows (whole c b s).rows_sound in
      let row : sound_row b.settings.next b.settings.time x ≡ true = and_l _ _ (rw q at rows) in
      elim (either (is_marker x)) [
        | inl k ↦ inr (eqb-true x.kind 2 k)
        | inr k ↦ let e = (row_data _ _ x row k).0 in inl (e, rw (carried_one b v x q, e))
      ]

  pub begun_invariant : Invariant b (since b [])
  begun_invariant =
      record {
        time = refl;
        unused = unused;
        unmade = λ v l. rw (unused v l);
        single = λ v. elim (differ_once b.rows d v) [ inl q ↦ inl q | inr q ↦ inr (q.0, q.1, known v q.0 q.1) ];
      }

  -- A test that the data row of a version passes.
  carried_held : (p : Row → Bool) (v : ℕ) → then_some (carried b v) false p ≡ true → Held b (since b []) v (λ x. p x ≡ true)
  carried_held p v e =
      elim (differ_once b.rows d v) [
        | inl q ↦ absurd (false≢true (rw q at e))
        | inr q ↦
            let f = rw (carried_one b v q.0 q.1) at e in
            elim (known v q.0 q.1) [
              | inl k ↦ record { row = q.0; once = q.1; is_data = k.0; unaltered = k.1; lock = rw (eq-eqb q.0.kind 1 k.0) at f }
              | inr k ↦ absurd (false≢true (rw k at f))
            ]
      ]

  carried_under_lem : (mode z v : ℕ) → carried_under b mode z v ≡ true → Held b (since b []) v (Under mode z)
  carried_under_lem mode z v e =
      held_as (carried_held (λ x. eqb x.mode mode && eqb x.until z) v e)
      (λ x p. (eqb-true x.mode mode (and_l _ _ p), eqb-true x.until z (and_r (eqb x.mode mode) _ p)))

  pub begun_kept : Kept b (since b [])
  begun_kept =
      record {
        in_compliance = λ v z late p l. held_as (carried_under_lem compliance z v (placed_first _ _ b late p)) (λ x u. (u.0, omega (arith, u.1)));
        in_governance = λ v z late p n l. held_as (carried_under_lem governance z v (placed_first _ _ b late p)) (λ x u. (inl u.0, omega (arith, u.1)));
        on_hold = λ v late p n. held_as (carried_held (λ x. eqb x.hold 1) v (placed_first _ _ b late p)) (λ x h. eqb-true x.hold 1 h);
      }

-- ## Each data row counts

-- What was made before the lines stays made with the same.
making_stays : (earlier : ℕ → Option Making) (es : List Event) (v : ℕ) (m : Making) → earlier v ≡ Some m → making_from earlier es v ≡ Some m
making_stays earlier [] v m q = q
making_stays earlier (e ∷ es) v m q = making_stays (making_after earlier e) es v m (rw q)

pub each_counts : EachCounts
each_counts b d xs ys x q k es =
    let v = x.number in
    let once : versions v b.rows ≡ x ∷ [] = rw q (differ_alone xs ys x (rw q at d)) in
    let found : carried b v ≡ Some x = carried_one b v x once ∙ rw (eq-eqb x.kind 1 k) in
    record {
      made = making_stays (carried_making b) es v (making_of x) (rw found);
      under = carried_over (rw found (and_i _ _ (eq-eqb x.mode x.mode refl) (eq-eqb x.until x.until refl))) refl;
      was_put_on_hold = λ h. carried_over (rw found (eq-eqb x.hold 1 h)) refl;
    }
