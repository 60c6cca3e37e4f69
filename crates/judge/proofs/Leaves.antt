-- The default's count is a number of days or years that a period can have.
use Prim.Native.Nat.{ℕ, ◌≤◌}
use mathlib.Core.Logic.{inl, inr}
use mathlib.Core.Bool.{◌&&◌}
use native.Mathlib.Omega.{arith}
use lib.Dec.{eqb, leb}
use borrow.Author.Tests.{eqb-true, leb-true}
use Rattle.buffers.proofs.Tests.{and_l, and_r, or_one}
use Rattle.model.specs.Rows.{is_mode}
use Rattle.model.specs.Settings.{days, years}
use Rattle.model.specs.Requests.{Verb}
use Rattle.table.specs.Contents.{Contents}
use Rattle.settings.specs.declared.State.{State}
use Rattle.judge.specs.Premises.{Asked}

pub count_most : (s : State) (table : Contents) (now : ℕ) (v : Verb) → Asked s table now v → s.count ≤ 36500
count_most s table now v asked =
    elim (or_one (eqb s.mode 0 && (eqb s.count 0 && eqb s.unit 0)) _ asked.ready.default_sound) [
      | inl z ↦ omega (arith, eqb-true s.count 0 (and_l _ _ (and_r (eqb s.mode 0) _ z)))
      | inr z ↦ elim (or_one (eqb s.unit days && leb s.count 36500) _ (and_r (leb 1 s.count) _ (and_r (is_mode s.mode) _ z))) [
        | inl d ↦ leb-true s.count 36500 (and_r (eqb s.unit days) _ d)
        | inr y ↦ omega (arith, leb-true s.count 100 (and_r (eqb s.unit years) _ y))
      ]
    ]
