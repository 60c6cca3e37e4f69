-- Each change of the table: what its function asks, and what it leaves.
use Prim.Native.Nat.{ℕ, ◌+◌, ◌-◌, ◌≤◌, ◌<◌}
use mathlib.Core.Path.{◌≡◌, refl, sym, ◌∙◌, ap}
use mathlib.Core.List.{List}
use Rattle.std.specs.Prelude.{Some}
use native.Mathlib.Omega.{arith}
use lib.ListN.{length, get_or, set, length-set}
use lib.Seq.{drop-cons}
use Rattle.text.specs.declared.Place.{Place}
use Rattle.text.specs.Fields.{part_of}
use Rattle.model.specs.declared.Fate.{Fate}
use Rattle.model.specs.Rows.{Row}
use Rattle.table.specs.declared.Numbers.{Numbers}
use Rattle.table.specs.Layout.{row_at, rows_of, capacity, Holds}
use Rattle.table.specs.Places.{row_from, key_at, Insertable, InUse}
use Rattle.table.specs.Changes.{insert_at, remove_at}
use Rattle.table.proofs.Held.{rows_length, row_at_lem}
use Rattle.table.proofs.Changes.{insert_length, remove_length}
use Rattle.search.specs.Places as places
use Rattle.judge.specs.declared.Change.{Change}
use Rattle.judge.specs.declared.Change.TheVariants.{Keep, Insert, Rewrite, Remove}
use Rattle.judge.specs.Meaning.{Judged, key_here, Changeable}
use Rattle.apply.specs.Applied.{judged, Applicable, Applied}
use mir.Val.{Fits}
use mir.Syntax.{w64}

-- The key of a used row, read from the list of the rows.
head_at : (xs : List Row) (i : ℕ) (d : Row) → i < length xs → places.nth_row xs i ≡ Some (get_or xs i d)
head_at xs i d h = rw (drop-cons xs i d h)

key_here_lem : (n b : List ℕ) (u i : ℕ) → i < u → key_here (rows_of n b u) i ≡ key_at b i
key_here_lem n b u i h =
    let d = row_at n b i in
    rw (head_at (rows_of n b u) i d (omega (arith, rows_length n b u))) (ap (λ (x : Row). x.key) (sym (row_at_lem n b u i d h)))

-- A change that can be carried out, at the case that the code found.
module _ (line : List ℕ) (next instant : ℕ) (fates : List Fate) (n b : List ℕ) (u : ℕ) (v : Change) (h : Applicable (judged line next instant fates) n b u v) where
  abbrev j : Judged
  j = judged line next instant fates

  long : length (rows_of n b u) ≡ u
  long = rows_length n b u

  -- Insertion.
  module _ (i : ℕ) (m : Numbers) (k : Place) (q : v ≡ Insert i m k) where
    insert_can : Changeable j (capacity b) (rows_of n b u) (Insert i m k)
    insert_can = rw q at h.can

    pub insert_within : k.start + k.len ≤ length line
    insert_within = insert_can.3

    pub insert_number : Fits w64 (next + 1)
    insert_number = omega (arith, insert_can.4)

    pub insert_ready : Insertable n b u i
    insert_ready = record { held = h.held; within = omega (arith, long, insert_can.0); free = omega (arith, long, insert_can.1) }

    pub insert_key : (key : List ℕ) → key ≡ part_of line k → length key ≤ 63
    insert_key key e = rw e insert_can.2

    pub inserted : (key n' b' : List ℕ) → key ≡ part_of line k → Holds (capacity b) (insert_at i (row_from m key) (rows_of n b u)) n' b' → Applied j (capacity b) (rows_of n b u) v n' b' (record { used = u + 1; next = next + 1 })
    inserted key n' b' e d =
        rw q (record {
          held = rw e at d;
          used_is = let l = insert_length i (row_from m (part_of j.line k)) (rows_of n b u) insert_can.0 in omega (arith, long);
          next_is = refl;
        })

  module _ (i : ℕ) (m : Numbers) (q : v ≡ Rewrite i m) where
    rewrite_can : i < length (rows_of n b u)
    rewrite_can = rw q at h.can

    pub rewrite_ready : InUse n b u i
    rewrite_ready = record { held = h.held; below = omega (arith, long, rewrite_can) }

    pub rewritten : (n' : List ℕ) → Holds (capacity b) (set (rows_of n b u) i (row_from m (key_at b i))) n' b → Applied j (capacity b) (rows_of n b u) v n' b (record { used = u; next = next })
    rewritten n' d =
        let k : key_here (rows_of n b u) i ≡ key_at b i = key_here_lem n b u i (omega (arith, long, rewrite_can)) in
        rw q (record {
          held = rw k d;
          used_is = sym (length-set (rows_of n b u) i (row_from m (key_here (rows_of n b u) i)) ∙ long);
          next_is = omega arith;
        })

  module _ (i : ℕ) (q : v ≡ Remove i) where
    remove_can : i < length (rows_of n b u)
    remove_can = rw q at h.can

    pub remove_ready : InUse n b u i
    remove_ready = record { held = h.held; below = omega (arith, long, remove_can) }

    pub remove_some : 1 ≤ u
    remove_some = omega (arith, long, remove_can)

    pub removed : (n' b' : List ℕ) → Holds (capacity b) (remove_at i (rows_of n b u)) n' b' → Applied j (capacity b) (rows_of n b u) v n' b' (record { used = u - 1; next = next })
    removed n' b' d =
        rw q (record { held = d; used_is = omega (arith, long, remove_length i (rows_of n b u) remove_can); next_is = omega arith })

  pub kept : v ≡ Keep → Applied j (capacity b) (rows_of n b u) v n b (record { used = u; next = next })
  kept q = rw q (record { held = h.held; used_is = sym long; next_is = omega arith })

pub ruleset applying = (insert_within, insert_number, insert_ready, insert_key, inserted, rewrite_ready, rewritten, remove_ready, remove_some, removed, kept)
