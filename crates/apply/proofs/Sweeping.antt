-- The change of a sweep.
use Prim.Native.Nat.{ℕ, ◌+◌, ◌-◌, ◌≤◌}
use mathlib.Core.Path.{◌≡◌, refl, ◌∙◌, ap}
use mathlib.Core.List.{List}
use native.Mathlib.Omega.{arith}
use lib.ListN.{length, take, length-take}
use Rattle.buffers.specs.Lists.{total}
use Rattle.model.specs.declared.Fate.{Fate}
use Rattle.model.specs.Sweep.{marks, removes, carried_out}
use Rattle.model.proofs.Room.{length_carried}
use Rattle.table.specs.Layout.{rows_of, capacity, Holds}
use Rattle.table.proofs.Held.{rows_length}
use Rattle.apply.specs.Passes as passes
use Rattle.judge.specs.declared.Change.{Change}
use Rattle.judge.specs.declared.Change.TheVariants.{Sweep}
use Rattle.judge.specs.Meaning.{Judged, Changeable}
use Rattle.apply.specs.Applied.{judged, Applicable, Applied}
use mir.Val.{Fits}
use mir.Syntax.{w64}

module _ (line : List ℕ) (next instant : ℕ) (fates : List Fate) (n b : List ℕ) (u : ℕ) (v : Change) (h : Applicable (judged line next instant fates) n b u v) (gone new : ℕ) (q : v ≡ Sweep gone new) where
  abbrev j : Judged
  j = judged line next instant fates

  long : length (rows_of n b u) ≡ u
  long = rows_length n b u

  can : Changeable j (capacity b) (rows_of n b u) (Sweep gone new)
  can = rw q at h.can

  fates_fit : u ≤ length fates
  fates_fit = omega (arith, long, can.5)

  -- The fates, counted by the used rows or by the list of them.
  fates_are : take (length (rows_of n b u)) j.fates ≡ take u j.fates
  fates_are = ap (λ (k : ℕ). take k j.fates) long

  pub sweep_ready : passes.Carriable n b u fates gone new next
  sweep_ready =
      let g : gone ≡ total removes (take u fates) = can.0 ∙ ap (total removes) fates_are in
      record {
        holds = h.held;
        each = fates_fit;
        removed = g;
        markers = can.1 ∙ ap (total marks) fates_are;
        room = omega (arith, long, can.2, can.3);
        numbers = can.4;
      }

  pub sweep_rows : Fits w64 (u - gone + new)
  sweep_rows = omega (arith, long, can.2, can.3, h.small)

  pub sweep_numbers : Fits w64 (next + new)
  sweep_numbers = omega (arith, can.4)

  pub sweep_gone : gone ≤ u
  sweep_gone = omega (arith, long, can.3)

  pub swept : (n' b' : List ℕ) → Holds (capacity b) (carried_out instant next (take u fates) (rows_of n b u)) n' b' → Applied j (capacity b) (rows_of n b u) v n' b' (record { used = u - gone + new; next = next + new })
  swept n' b' d =
      let fl : length (take (length (rows_of n b u)) j.fates) ≡ length (rows_of n b u) = simp length-take (omega (arith, can.5)) in
      let l = length_carried j.now j.next (take (length (rows_of n b u)) j.fates) (rows_of n b u) fl in
      rw q (record {
        held = rw fates_are d;
        used_is = omega (arith, long, can.0, can.1, can.3);
        next_is = refl;
      })

pub ruleset sweeping = (sweep_ready, sweep_rows, sweep_numbers, sweep_gone, swept)
