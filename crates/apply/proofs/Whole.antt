-- The two passes, one after the other.
use Prim.Native.Nat.{ℕ, ◌≤◌}
use mathlib.Core.Path.{◌≡◌, refl, sym, ap, ◌∙◌}
use mathlib.Core.List.{List, map}
use Rattle.std.proofs.lemmas.List.{length-map}
use native.Mathlib.Omega.{arith}
use lib.ListN.{length, take}
use lib.Seq.{length-take-le}
use Rattle.buffers.specs.Lists.{total}
use Rattle.model.specs.declared.Fate.{Fate}
use Rattle.model.specs.Sweep.{removes, carried_out}
use Rattle.table.specs.Layout.{Holds, rows_of, capacity}
use Rattle.table.proofs.Held.{rows_length, held_capacity, held_rows, held_again}
use Rattle.apply.specs.Passes.{kept, Carriable, Thinned, Remaining}
use Rattle.apply.proofs.Passes.{kept_length, kept_all, two_passes}

-- No row goes.
pub none_goes : {A : Type 0} (fate_in : A → Fate) (fs : List A) (n b : List ℕ) (used gone : ℕ) → Holds (capacity b) (rows_of n b used) n b → used ≤ length fs
    → gone ≡ total removes (take used (map fate_in fs)) → gone ≡ 0 → Remaining (capacity b) (kept (take used (map fate_in fs)) (rows_of n b used)) n b used
none_goes fate_in fs n b used gone h g e z =
    let m = map fate_in fs in
    let l = rows_length n b used in
    let t = length-take-le used m (omega (arith, g, length-map fs fate_in)) in
    let k : kept (take used m) (rows_of n b used) ≡ rows_of n b used = kept_all (take used m) (rows_of n b used) (omega arith) (sym e ∙ z) in
    rw k (record { holds = h; many = sym l })

module _ (n b : List ℕ) (used : ℕ) (m : List Fate) (gone added next : ℕ) (h : Carriable n b used m gone added next) (n₁ b₁ : List ℕ) (left : ℕ)
    (d : Remaining (capacity b) (kept (take used m) (rows_of n b used)) n₁ b₁ left) where
  fates_many : length (take used m) ≡ used
  fates_many = length-take-le used m h.each

  pub thinned : Thinned n₁ b₁ left used m added next
  thinned =
      let f = fates_many in
      let l = rows_length n b used in
      let a = kept_length (take used m) (rows_of n b used) (l ∙ sym f) in
      let o = kept_length (take used m) (take used m) refl in
      let e = d.many in
      let r = h.room in
      let q = held_capacity d.holds in
      record {
        holds = held_again d.holds left d.many;
        each = h.each;
        rest = omega arith;
        markers = h.markers;
        room = omega arith;
        numbers = h.numbers;
      }

  pub carried : (t : ℕ) (n₂ b₂ : List ℕ) → Holds (capacity b₁) (carried_out t next (kept (take used m) (take used m)) (rows_of n₁ b₁ left)) n₂ b₂
      → Holds (capacity b) (carried_out t next (take used m) (rows_of n b used)) n₂ b₂
  carried t n₂ b₂ p =
      let r : rows_of n₁ b₁ left ≡ kept (take used m) (rows_of n b used) = ap (rows_of n₁ b₁) d.many ∙ held_rows d.holds in
      rw (held_capacity d.holds, r, two_passes) at p

pub ruleset whole_cases = (thinned, carried)
