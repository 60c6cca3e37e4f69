-- The fates of all rows, and how many rows they remove and markers they add.
use Rattle.std.proofs.Common.{◌≡◌, ℕ, ◌+◌, ◌<◌, ◌≤◌, List, [], ◌∷◌, length, take, drop, sym, refl, arith, length-append, take_at, take-suc-set, set, add-one, ap₂, map}
use Rattle.std.proofs.lemmas.List.{map-append, length-map}
use denote.Enum.Bare.{sameb}
use mir.Val.{bool_byte}
use Rattle.std.specs.Prelude.{None}
use Rattle.buffers.proofs.Lists.{total_append}
use Rattle.model.specs.contracts.Fate.{the_type}
use Rattle.model.specs.declared.Fate.{Fate}
use Rattle.model.specs.declared.Fate.TheVariants.{Stays, Goes, Gains}
use Rattle.model.specs.Rows.{Row}
use Rattle.model.specs.Settings.{Rule}
use Rattle.model.specs.Sweep.{marks, removes, fates}
use Rattle.model.proofs.Sweeping.{each_fate}
use Rattle.lifecycle.specs.Fates.{fates_after}
use Rattle.lifecycle.specs.Judging.{Counted, CountedOn}

module _ {A : Type 0} (cell : Fate → A) (fate_in : A → Fate) (back : (f : Fate) → fate_in (cell f) ≡ f) where
  -- The fates that are kept are those that were written.
  all_back : (fs : List Fate) → map fate_in (map cell fs) ≡ fs
  all_back [] = refl
  all_back (f ∷ fs) = ap₂ (λ (x : Fate) (xs : List Fate). x ∷ xs) (back f) (all_back fs)

  module _ (us : List Rule) (t : ℕ) (xs : List Row) (entry : List A) where
    -- The first fates after a judgement are the rows'.
    pub fates_after_lem : take (length xs) (map fate_in (fates_after cell us t xs entry)) ≡ fates us t None xs
    unfolding fates_after
    fates_after_lem =
        rw (map-append fate_in (map cell (fates us t None xs)) (drop (length xs) entry), all_back (fates us t None xs))
        (take_at (fates us t None xs) (map fate_in (drop (length xs) entry)) (length xs) (each_fate us t None xs))

    pub after_long : length xs ≤ length (fates_after cell us t xs entry)
    unfolding fates_after
    after_long =
        let a = length-append (map cell (fates us t None xs)) (drop (length xs) entry) in
        let b = each_fate us t None xs in
        let c = length-map (fates us t None xs) cell in
        omega arith

-- ## Counting

-- What a test for a fate comes to as a number.
pub goes_is : (v : Fate) → bool_byte (sameb the_type v Goes) ≡ removes v
goes_is Stays = refl
goes_is Goes = refl
goes_is Gains = refl

pub gains_is : (v : Fate) → bool_byte (sameb the_type v Gains) ≡ marks v
gains_is Stays = refl
gains_is Goes = refl
gains_is Gains = refl

pub counted_all : Counted [] 0 0
counted_all = record { gone = record { is = refl; most = omega arith }; come = record { is = refl; most = omega arith } }

pub counted_none : (from : ℕ) (m : List Fate) → CountedOn m m from from 0 0
counted_none from m = record { few_gone = omega arith; few_come = omega arith; on = λ c d h. let x : c + 0 ≡ c = omega arith in let y : d + 0 ≡ d = omega arith in rw (x, y) h }

few : (f : Fate) → (removes f ≤ 1) × (marks f ≤ 1)
few Stays = (omega arith, omega arith)
few Goes = (omega arith, omega arith)
few Gains = (omega arith, omega arith)

one_more : (i c d r s : ℕ) (v : Fate) (m : List Fate) → i < length m → r ≡ removes v → s ≡ marks v → Counted (take i m) c d → Counted (take (i + 1) (set m i v)) (c + r) (d + s)
one_more i c d r s v m g e f h =
    let x = total_append removes (take i m) (v ∷ []) in
    let y = total_append marks (take i m) (v ∷ []) in
    let l = length-append (take i m) (v ∷ []) in
    rw (add-one i, take-suc-set m i v g) (record {
      gone = record { is = omega (arith, h.gone.is); most = omega (arith, h.gone.most, (few v).0) };
      come = record { is = omega (arith, h.come.is); most = omega (arith, h.come.most, (few v).1) };
    })

-- One fate more.
pub counted_more : (from i : ℕ) (v : Fate) (entry m : List Fate) (c d r s : ℕ) → CountedOn entry m from i c d → from ≤ i → i < length m → r ≡ removes v → s ≡ marks v → CountedOn entry (set m i v) from (i + 1) (c + r) (d + s)
counted_more from i v entry m c d r s h l g e f =
    let k = few v in
    record {
      few_gone = omega (arith, h.few_gone, k.0);
      few_come = omega (arith, h.few_come, k.1);
      on = λ a b p. let x : a + (c + r) ≡ a + c + r = omega arith in let y : b + (d + s) ≡ b + d + s = omega arith in rw (x, y) (one_more i (a + c) (b + d) r s v m g e f (h.on a b p));
    }

-- The first of a key's fates, and the others.
pub counted_first : (from to : ℕ) (v : Fate) (entry exit : List Fate) (c s : ℕ) → from < to → to ≤ length entry → removes v ≡ 0 → s ≡ marks v → CountedOn (set entry from v) exit (from + 1) to c 0 → CountedOn entry exit from to c s
counted_first from to v entry exit c s g l e f h =
    let k = few v in
    record {
      few_gone = omega (arith, h.few_gone);
      few_come = omega (arith, k.1);
      on = λ a b p. let x : a + 0 + c ≡ a + c = omega arith in let y : b + s + 0 ≡ b + s = omega arith in rw (x, y) at (h.on (a + 0) (b + s) (one_more from a b 0 s v entry (omega arith) (sym e) f p));
    }
