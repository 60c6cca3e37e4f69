-- What an accepted line does to the only row of a version.
use Prim.Native.Nat.{ℕ, ◌<◌}
use mathlib.Core.Path.{◌≡◌, refl, ◌∙◌}
use mathlib.Core.Logic.{inl, inr}
use mathlib.Core.Bool.{Bool, true, false, not, ◌&&◌}
use mathlib.Core.List.{List, [], ◌∷◌}
use Rattle.std.specs.Prelude.{Some, None}
use native.Mathlib.Omega.{arith}
use lib.Dec.{eqb}
use borrow.Author.Tests.{eq-eqb, ne_eqb, not-false}
use Rattle.buffers.specs.Choices.{then_some, or_zero}
use Rattle.buffers.proofs.Tests.{either, and_l, and_r}
use Rattle.calendar.specs.declared.Now.{Now}
use Rattle.model.specs.Rows.{Row}
use Rattle.model.specs.Settings.{Bucket}
use Rattle.model.specs.Requests.{
  Version,
  Name,
  name,
  Retention,
  Verb,
  Put,
  Copy,
  Retain,
  Hold,
  AddMarker,
  DeleteVersion,
  Set,
  Sweep,
  Ask,
  Context,
  bypass_of,
  is_name,
  is_retention,
  is_mode_field,
  in_range,
}
use Rattle.model.specs.Locks.{locked, admits}
use Rattle.model.specs.Effects.{row_of, is_named, set_retention, set_hold, hold_number, rows_after}
use Rattle.model.specs.Refusals.{barred}
use Rattle.model.specs.LockClause.{versions, names_in, hold_off}
use Rattle.model.proofs.Versions.{number_is, insert_other, named_row_lem, change_version, keep_version, swept_version}
use Rattle.model.proofs.Accepted.{Accepted}

-- What becomes of a version's only row x: ys are the rows of that version afterwards.
pub data Change (xs : List Row) (now : ℕ) (w : Verb) (v : ℕ) (x : Row) (ys : List Row) : Type 0 where
  -- it stays;
  kept : ys ≡ x ∷ [] → Change xs now w v x ys
  -- a RETAIN that names it, and that RETAIN's rule admits, gives it another retention;
  relocked : (r : Retention) (bypass : Bool) → ys ≡ set_retention (or_zero r.mode) (or_zero r.date) x ∷ [] → admits now bypass x r ≡ true → is_mode_field r.mode ≡ true → ((names_in xs v w && bypass_of w) ≡ false → bypass ≡ false) → Change xs now w v x ys
  -- a HOLD that names it turns its hold on or off;
  reheld : (on : Bool) → ys ≡ set_hold (hold_number on) x ∷ [] → ((names_in xs v w && hold_off w) ≡ false → on ≡ true) → Change xs now w v x ys
  -- it is removed, and was not locked.
  dropped : (bypass : Bool) → ys ≡ [] → locked now bypass x ≡ false → ((names_in xs v w && bypass_of w) ≡ false → bypass ≡ false) → Change xs now w v x ys

-- A named row names its version.
names_version : (v : ℕ) (xs : List Row) (n : Name) (x : Row) → versions v xs ≡ x ∷ [] → row_of xs n ≡ Some x → then_some (row_of xs n) false (λ y. eqb y.number v) ≡ true
names_version v xs n x e f = rw f (eq-eqb x.number v (number_is v xs x e))

retained : (c : ℕ) (b : Bucket) (g : Context) (now : Now) (n : Name) (r : Retention) (y : Bool) → Accepted c b g now (Retain n r y) → (v : ℕ) (x : Row) → versions v b.rows ≡ x ∷ [] → Change b.rows now.judge (Retain n r y) v x (versions v (rows_after b now (Retain n r y)))
unfolding rows_after barred in_range
retained c b g now n r y p v x e =
    let moved = change_version v (is_named b.rows n) (set_retention (or_zero r.mode) (or_zero r.date)) (λ _. refl) b.rows x e in
    let ranges : is_retention r ≡ true = and_r (is_name n) _ p.fields.is_in_range in
    elim (either (is_named b.rows n x)) [
      | inl t ↦
          let f = named_row_lem v b.rows n x e t in
          relocked r y (moved ∙ rw t) (not-false _ (rw f at p.free)) (and_l _ _ ranges) (λ q. rw (names_version v b.rows n x e f) at q)
      | inr t ↦ kept (moved ∙ rw t)
    ]

held : (b : Bucket) (now : Now) (n : Name) (on : Bool) (v : ℕ) (x : Row) → versions v b.rows ≡ x ∷ [] → Change b.rows now.judge (Hold n on) v x (versions v (rows_after b now (Hold n on)))
unfolding rows_after
held b now n on v x e =
    let moved = change_version v (is_named b.rows n) (set_hold (hold_number on)) (λ _. refl) b.rows x e in
    elim (either (is_named b.rows n x)) [
      | inl t ↦ reheld on (moved ∙ rw t) (λ q. not-false on (rw (names_version v b.rows n x e (named_row_lem v b.rows n x e t)) at q))
      | inr t ↦ kept (moved ∙ rw t)
    ]

deleted : (c : ℕ) (b : Bucket) (g : Context) (now : Now) (k : List ℕ) (u : Version) (y : Bool) → Accepted c b g now (DeleteVersion k u y) → (v : ℕ) (x : Row) → versions v b.rows ≡ x ∷ [] → Change b.rows now.judge (DeleteVersion k u y) v x (versions v (rows_after b now (DeleteVersion k u y)))
unfolding rows_after barred
deleted c b g now k u y p v x e =
    let left = keep_version v (λ z. not (is_named b.rows (name k (Some u)) z)) b.rows x e in
    elim (either (is_named b.rows (name k (Some u)) x)) [
      | inl t ↦
          let f = named_row_lem v b.rows (name k (Some u)) x e t in
          dropped y (left ∙ rw t) (rw f at p.free) (λ q. rw (names_version v b.rows (name k (Some u)) x e f) at q)
      | inr t ↦ kept (left ∙ rw t)
    ]

-- Each verb.
pub changed : (c : ℕ) (b : Bucket) (g : Context) (now : Now) (w : Verb) → Accepted c b g now w → (v : ℕ) (x : Row) → v < b.settings.next → versions v b.rows ≡ x ∷ [] → Change b.rows now.judge w v x (versions v (rows_after b now w))
unfolding rows_after
changed c b g now (Put k body size t) p v x l e = kept (insert_other v _ b.rows (ne_eqb _ v (λ q. omega arith)) ∙ e)
changed c b g now (Copy n k t) p v x l e = kept (insert_other v _ b.rows (ne_eqb _ v (λ q. omega arith)) ∙ e)
changed c b g now (Retain n r y) p v x l e = retained c b g now n r y p v x e
changed c b g now (Hold n on) p v x l e = held b now n on v x e
changed c b g now (AddMarker k y) p v x l e = kept (insert_other v _ b.rows (ne_eqb _ v (λ q. omega arith)) ∙ e)
changed c b g now (DeleteVersion k u y) p v x l e = deleted c b g now k u y p v x e
changed c b g now (Set s) p v x l e = kept e
changed c b g now Sweep p v x l e =
    elim (swept_version b.settings.config.rules now b.settings.next None b.rows v x l e) [
      | inl s ↦ kept s
      | inr s ↦ dropped false s.0 s.1 (λ _. refl)
    ]
changed c b g now (Ask q) p v x l e = kept e
