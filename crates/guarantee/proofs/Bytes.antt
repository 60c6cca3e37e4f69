-- Calls over bytes are calls on what the bytes spell: the demands of the C entries.
use Prim.Native.Nat.{ℕ, zero, suc, ◌/◌, ◌%◌}
use mathlib.Core.Path.{◌≡◌, refl, sym, ◌∙◌, ap, subst⁻¹}
use mathlib.Core.Logic.{inl, inr}
use mathlib.Core.Bool.{Bool, true, false≢true}
use mathlib.Core.List.{List, [], ◌∷◌, map-id}
use native.Mathlib.Omega.{arith}
use lib.Dec.{eqb, ltb}
use lib.ListN.{length}
use borrow.Author.Tests.{eqb-true, eqb-false, ltb-false}
use Rattle.buffers.proofs.Tests.{either, and_l}
use Rattle.buffers.proofs.Choices.{pick_ways}
use Rattle.model.specs.Run.{left}
use Rattle.model.specs.LockClause.{since, Kept}
use Rattle.model.proofs.Runs.{left_keeps, left_as, gathered_as}
use Rattle.settings.specs.Bytes.{settings_length}
use Rattle.table.specs.Layout.{capacity}
use Rattle.bucket.specs.Whole.{Lent, bucket_of, fresh_lent, whole}
use Rattle.bucket.proofs.Whole.{whole_parts}
use Rattle.outcome.specs.Calls.{Call}
use Rattle.outcome.specs.Outcome.{Outcome, outcome}
use Rattle.outcome.proofs.Deciding.{outcome_1}
use Rattle.outcome.proofs.Demands.{outcome_refused, whole_unless_1, accepted_of_whole}
use Rattle.knitpasture.specs.Bytes.{numbers_from, table_length, Bytes, lent_of, ByteOutcome, byte_outcome, outcome_bytes, hub_served, fit_rows, FreshOutcome, fresh_outcome, hub_fresh}
use Rattle.knitpasture.proofs.Left.{Fitting, spelling_ways, reads_as, left_number}
use Rattle.knitpasture.proofs.Hub.{HandsOn, hub_range, hub_refused, hub_hands_on}
use Rattle.knitpasture.proofs.FreshBucket.{fresh_made, fresh_hands_on}
use Rattle.guarantee.specs.Calls.{step, call_event, call_events}
use Rattle.guarantee.specs.Bytes.{Sized, outcome_in_bytes, Demand1Bytes, Demand2Bytes, WrongLengths, fresh_bytes, FreshMade, byte_step, byte_event, byte_events, Demand3Bytes}
use Rattle.guarantee.specs.Carried.{Carriable, RunsOnBytes, SeenWhole}
use Rattle.guarantee.specs.Exchanges.{Exchange, exchange, exchanges, byte_exchange, byte_exchanges, is_served}
use Rattle.guarantee.proofs.Demands.{demand_2}
use Rattle.guarantee.proofs.Runs.{whole_after}
use Rattle.guarantee.proofs.LockClause.{runs_on, fresh_capacity, fresh_carriable}

-- ## Lengths

-- Bytes that hand on a bucket of capacity c have the lengths of c rows.
handed_sized : (c : ℕ) (b x : Bytes) (l : Lent) → Sized c b → capacity l.keys ≡ c → HandsOn l x → Sized c x
handed_sized c b x l z e h =
    record { some = z.some; most = z.most; settings_long = h.settings_long; rows_long = omega (arith, h.rows_long); keys_long = omega (arith, h.keys_long) }

numbers_length : (k : ℕ) (b : List ℕ) → length (numbers_from k b) ≡ k
unfolding numbers_from
numbers_length zero b = refl
numbers_length (suc k) b = ap suc (numbers_length k _)

-- Bytes that spell what is whole have the lengths of its capacity.
whole_sized : (b : Bytes) → Fitting b → whole (lent_of b) ≡ true → Sized (capacity b.keys) b
whole_sized b f w =
    let p = whole_parts (lent_of b) w in
    let n = numbers_length (length b.rows / 8) b.rows in
    record { some = p.some; most = p.most; settings_long = f.settings_long; rows_long = omega (arith, p.numbers_long, f.rows_even); keys_long = p.keys_long }

-- The lengths of c rows are fitting.
pub sized_fits : (c : ℕ) (b : Bytes) → Sized c b → Fitting b
sized_fits c b z =
    let r = z.rows_long in
    let m = z.most in
    record { settings_long = z.settings_long; rows_most = omega arith; rows_even = omega arith }

pub seen_whole : SeenWhole
unfolding hub_served
seen_whole b g =
    spelling_ways b (λ (x : ByteOutcome). (x.number ≡ 1 → ⊥) → Sized (capacity b.keys) b × (whole (lent_of b) ≡ true))
    (λ f n. let w = whole_unless_1 (lent_of b) g (λ e. n (left_number _ (outcome (lent_of b) g) b g.answer ∙ e)) in (whole_sized b f w, w))
    (λ n. absurd (n refl))

-- An accepted call tells that the bytes have the lengths of some c rows.
pub accepted_sized : (b : Bytes) (g : Call) → (hub_served b g).number ≡ 0 → Sized (capacity b.keys) b
accepted_sized b g n = (seen_whole b g (λ e. omega arith)).0

-- ## A call on bytes of the lengths of c rows

module _ (c : ℕ) (b : Bytes) (g : Call) (z : Sized c b) where
  -- the call on the spelled bucket
  abbrev core : Outcome
  core = outcome (lent_of b) g

  is_served_lem : hub_served b g ≡ outcome_bytes core b g.answer
  is_served_lem = reads_as b g (sized_fits c b z)

  pub same_number : (hub_served b g).number ≡ core.number
  same_number = rw is_served_lem (left_number _ core b g.answer)

  -- An accepted call leaves the bytes of what the call on the spelled bucket leaves.
  pub accepted_bytes : core.number ≡ 0 → hub_served b g ≡ outcome_in_bytes core
  accepted_bytes n = is_served_lem ∙ rw n

  -- What it leaves has the same lengths, and spells what the call on the spelled bucket leaves.
  record Spells : Type 0 where
    pub sized : Sized c (byte_step b g)
    pub is : lent_of (byte_step b g) ≡ step (lent_of b) g

  spells_accepted : core.number ≡ 0 → Spells
  spells_accepted n =
      let h = hub_hands_on b g (same_number ∙ n) in
      let k = z.keys_long in
      let w = whole_after c (lent_of b) g (record { is_whole = accepted_of_whole (lent_of b) g n; size = omega arith }) in
      record { sized = handed_sized c b (byte_step b g) core.bucket z w.size h; is = h.spells }

  spells_refused : (core.number ≡ 0 → ⊥) → Spells
  spells_refused n =
      let kept : byte_step b g ≡ b = ap (λ (o : ByteOutcome). o.bytes) (hub_refused b g (λ e. n (sym same_number ∙ e))) in
      let same : step (lent_of b) g ≡ lent_of b = ap (λ (o : Outcome). o.bucket) (outcome_refused (lent_of b) g n) in
      record { sized = subst⁻¹ (Sized c) kept z; is = ap lent_of kept ∙ sym same }

  spells_after : Spells
  spells_after = elim (either (eqb core.number 0)) [
    | inl t ↦ spells_accepted (eqb-true core.number 0 t)
    | inr t ↦ spells_refused (eqb-false core.number 0 t)
  ]

  same_event : byte_event b g ≡ call_event (lent_of b) g
  same_event = elim (either (eqb core.number 0)) [
    | inl t ↦ simp (is_served_lem, t)
    | inr t ↦ simp (is_served_lem, t)
  ]

  pub same_exchange : byte_exchange b g ≡ exchange (lent_of b) g
  same_exchange = elim (either (eqb core.number 0)) [
    | inl t ↦ simp (is_served_lem, t) (rw (eqb-true core.number 0 t))
    | inr t ↦ simp (is_served_lem, t) (rw (outcome_refused (lent_of b) g (eqb-false core.number 0 t)))
  ]

  -- ## Demand 2 of the C entry

  pub demand_2_bytes : Demand2Bytes c b g
  demand_2_bytes =
      let d = demand_2 (lent_of b) g in
      record {
        refused_first = λ n e. d.refused_first n (sym same_number ∙ e);
        first_refused = λ n h. same_number ∙ d.first_refused n h;
        accepts = λ e.
            let a = d.accepts e in
            record { request = a.request; hears = a.hears; outcome = core; outcome_is = a.does; does = is_served_lem ∙ rw a.does; sized = spells_after.sized; spells = spells_after.is };
      }

-- ## Demand 1, and wrong lengths

-- A line of a verb that was served was served on what the bytes spell.
pub served_spelled : (b : Bytes) (g : Call) (verb : List ℕ) → is_served verb (byte_exchange b g) ≡ true → is_served verb (exchange (lent_of b) g) ≡ true
served_spelled b g verb e = sym (ap (is_served verb) (same_exchange _ b g (accepted_sized b g (eqb-true _ 0 (and_l _ _ e))))) ∙ e

pub demand_1_bytes : (b : Bytes) (g : Call) → Demand1Bytes b g
demand_1_bytes b g = record { numbered = hub_range b g; writes_nothing = hub_refused b g }

pub wrong_lengths : (b : Bytes) (g : Call) → WrongLengths b g
unfolding hub_served
wrong_lengths b g wrong =
    spelling_ways b (λ (x : ByteOutcome). x ≡ byte_outcome 1 b g.answer)
    (λ f. elim (either (whole (lent_of b))) [
      | inl w ↦ absurd (wrong (capacity b.keys) (whole_sized b f w))
      | inr w ↦ rw (← outcome_1 (lent_of b) g w)
    ])
    refl

-- ## A fresh bucket

module _ (c : ℕ) (b : Bytes) (z : Sized c b) where
  fresh_handed : HandsOn (fresh_lent c) (fresh_bytes b)
  fresh_handed = fresh_hands_on b c z.some z.most z.settings_long z.rows_long z.keys_long

  fresh_sized : Sized c (fresh_bytes b)
  fresh_sized = handed_sized c b (fresh_bytes b) (fresh_lent c) z (fresh_capacity c) fresh_handed

-- Bytes that are made fresh have the lengths of some c rows.
fit_sized : (b : Bytes) → length b.settings ≡ settings_length → length b.rows ≡ length b.keys → fit_rows (length b.keys) ≡ true → Sized (capacity b.keys) b
unfolding fit_rows
fit_sized b s r =
    let n = length b.keys in
    let fits : Bool → Type 0 = λ t. t ≡ true → Sized (capacity b.keys) b in
    pick_ways fits (ltb n 64) (λ _ e. absurd (false≢true e))
    (λ low. pick_ways fits (ltb table_length n) (λ _ e. absurd (false≢true e))
    (λ high e.
    let k = eqb-true (n % 64) 0 e in
    record { some = omega (arith, ltb-false n 64 low); most = omega (arith, ltb-false table_length n high); settings_long = s; rows_long = omega arith; keys_long = omega arith }))

fresh_refused : (b : Bytes) → ((c : ℕ) → Sized c b → ⊥) → hub_fresh b ≡ fresh_outcome 1 b
unfolding hub_fresh
fresh_refused b wrong =
    let stays : FreshOutcome → Type 0 = λ x. x ≡ fresh_outcome 1 b in
    pick_ways stays (eqb (length b.settings) settings_length)
    (λ s. pick_ways stays (eqb (length b.rows) (length b.keys))
    (λ r. pick_ways stays (fit_rows (length b.keys)) (λ f. absurd (wrong (capacity b.keys) (fit_sized b (eqb-true _ _ s) (eqb-true _ _ r) f))) (λ _. refl))
    (λ _. refl))
    (λ _. refl)

pub fresh_is_made : (b : Bytes) → FreshMade b
fresh_is_made b =
    record {
      returns_0 = λ c z. ap (λ (x : FreshOutcome). x.number) (fresh_made b c z.some z.most z.settings_long z.rows_long z.keys_long);
      sized = λ c z. fresh_sized c b z;
      spells = λ c z. (fresh_handed c b z).spells;
      refuses = fresh_refused b;
    }

-- ## A list of calls: the lock clause and demand 3 of the C entries

module _ (c : ℕ) where
  pub sized_after : (b : Bytes) (g : Call) → Sized c b → Sized c (byte_step b g)
  sized_after b g z = (spells_after c b g z).sized

  pub spelled_after : (b : Bytes) (g : Call) → Sized c b → lent_of (byte_step b g) ≡ step (lent_of b) g
  spelled_after b g z = (spells_after c b g z).is

  pub sized_left : (b : Bytes) (gs : List Call) → Sized c b → Sized c (left byte_step b gs)
  sized_left = left_keeps byte_step (Sized c) sized_after

  pub spelled_left : (b : Bytes) (gs : List Call) → Sized c b → lent_of (left byte_step b gs) ≡ left step (lent_of b) gs
  spelled_left b gs z = left_as byte_step step lent_of (λ g. g) (Sized c) sized_after spelled_after b gs z ∙ ap (left step (lent_of b)) (map-id gs)

  spelled_events : (b : Bytes) (gs : List Call) → Sized c b → byte_events b gs ≡ call_events (lent_of b) gs
  spelled_events b gs z = gathered_as byte_step step lent_of (λ g. g) (Sized c) sized_after spelled_after byte_event call_event (same_event c) b gs z ∙ ap (call_events (lent_of b)) (map-id gs)

  pub spelled_exchanges : (b : Bytes) (gs : List Call) → Sized c b → byte_exchanges b gs ≡ exchanges (lent_of b) gs
  spelled_exchanges b gs z =
      gathered_as byte_step step lent_of (λ g. g) (Sized c) sized_after spelled_after (λ b g. byte_exchange b g ∷ []) (λ b g. exchange b g ∷ []) (λ b g z. ap (λ (e : Exchange). e ∷ []) (same_exchange c b g z)) b gs z
      ∙ ap (exchanges (lent_of b)) (map-id gs)

pub runs_on_bytes : RunsOnBytes
runs_on_bytes c b z p gs =
    subst⁻¹ (λ (x : Lent). Kept (bucket_of x) (since (bucket_of (lent_of b)) (byte_events b gs))) (spelled_left c b gs z)
    (rw (spelled_events c b gs z) (runs_on (lent_of b) p gs))

pub demand_3_bytes : Demand3Bytes
demand_3_bytes c b z gs =
    runs_on_bytes c (fresh_bytes b) (fresh_sized c b z) (subst⁻¹ Carriable (fresh_handed c b z).spells (fresh_carriable c z.some z.most)) gs
