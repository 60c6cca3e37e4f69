-- The three locks outlast every accepted line that they should, and the line that puts a version under a lock leaves it so.
use Prim.Native.Nat.{ℕ, ◌≤◌, ◌<◌}
use mathlib.Core.Path.{◌≡◌, sym, ◌∙◌}
use mathlib.Core.Logic.{◌⊎◌, inl, inr}
use mathlib.Core.Bool.{Bool, true, false, ◌&&◌, true≢false, false≢true}
use mathlib.Core.List.{List, nil≢cons}
use Rattle.std.specs.Prelude.{Option, Some, None}
use native.Mathlib.Omega.{arith}
use lib.Dec.{eqb, leb}
use borrow.Author.Tests.{eqb-true, leb-true, leb-false, lt-ltb}
use Rattle.buffers.specs.Choices.{is_some, or_zero}
use Rattle.buffers.proofs.Tests.{either, and_l, and_r, or_one, or_none}
use Rattle.model.specs.Rows.{Row, governance, compliance}
use Rattle.model.specs.Settings.{Bucket}
use Rattle.model.specs.Requests.{Retention, Verb, Context, is_the, bypass_of, is_mode_field}
use Rattle.model.specs.Time.{now_of}
use Rattle.model.specs.Locks.{locked, no_earlier, admits}
use Rattle.model.specs.Effects.{set_retention, set_hold, hold_number, rows_after, after}
use Rattle.model.specs.LockClause.{History, names_in, hold_off, versions, Held, InCompliance, InGovernance, OnHold}
use Rattle.model.proofs.Accepted.{Accepted}
use Rattle.model.proofs.Line.{Change, kept, relocked, reheld, dropped, changed}
use Rattle.model.proofs.Invariant.{Invariant, asked, with, made_before}

-- ## A lock that lasts

-- What a statement about a version's row needs, to outlast a line: the changes that an accepted line can make.
pub record Lasts (xs : List Row) (now : ℕ) (w : Verb) (v : ℕ) (L : Row → Type 0) : Type 0 where
  pub relock : (x : Row) (r : Retention) (bypass : Bool) → L x → admits now bypass x r ≡ true → is_mode_field r.mode ≡ true → ((names_in xs v w && bypass_of w) ≡ false → bypass ≡ false) → L (set_retention (or_zero r.mode) (or_zero r.date) x)
  pub rehold : (x : Row) (on : Bool) → L x → ((names_in xs v w && hold_off w) ≡ false → on ≡ true) → L (set_hold (hold_number on) x)
  pub stay : (x : Row) (bypass : Bool) → L x → locked now bypass x ≡ false → ((names_in xs v w && bypass_of w) ≡ false → bypass ≡ false) → ⊥

-- A held version's number is taken.
held_below : (b : Bucket) (past : History) (v : ℕ) (L : Row → Type 0) → Invariant b past → Held b past v L → v < b.settings.next
held_below b past v L i s =
    elim (either (leb b.settings.next v)) [
      | inl e ↦ absurd (nil≢cons (sym (i.unused v (leb-true b.settings.next v e)) ∙ s.once))
      | inr e ↦ leb-false b.settings.next v e
    ]

held_changed : (b : Bucket) (past : History) (g : Context) (w : Verb) (v : ℕ) (L : Row → Type 0) (s : Held b past v L) → Lasts b.rows (now_of b g).judge w v L → Change b.rows (now_of b g).judge w v s.row (versions v (rows_after b (now_of b g) w)) → Held (after b (asked g w)) (with past b g w) v L
held_changed b past g w v L s h (kept e) =
    record { row = s.row; once = e; is_data = s.is_data; unaltered = made_before b past g w v _ s.unaltered; lock = s.lock }
held_changed b past g w v L s h (relocked r y e p q n) =
    record { row = _; once = e; is_data = s.is_data; unaltered = made_before b past g w v _ s.unaltered; lock = h.relock s.row r y s.lock p q n }
held_changed b past g w v L s h (reheld on e n) =
    record { row = _; once = e; is_data = s.is_data; unaltered = made_before b past g w v _ s.unaltered; lock = h.rehold s.row on s.lock n }
held_changed b past g w v L s h (dropped y e p n) = absurd (h.stay s.row y s.lock p n)

-- Each accepted line keeps a held version whose lock outlasts it.
pub held_after : (c : ℕ) (b : Bucket) (past : History) (g : Context) (w : Verb) → Accepted c b g (now_of b g) w → Invariant b past → (v : ℕ) (L : Row → Type 0) → Lasts b.rows (now_of b g).judge w v L → Held b past v L → Held (after b (asked g w)) (with past b g w) v L
held_after c b past g w p i v L h s =
    held_changed b past g w v L s h (changed c b g (now_of b g) w p v s.row (held_below b past v L i s) s.once)

-- ## COMPLIANCE

late_is : (t : ℕ) (d : Option ℕ) → no_earlier t d ≡ true → t ≤ or_zero d
late_is t None e = absurd (false≢true e)
late_is t (Some d) e = leb-true t d e

pub the_is : (n : ℕ) (m : Option ℕ) → is_the n m ≡ true → or_zero m ≡ n
the_is n None e = absurd (false≢true e)
the_is n (Some m) e = eqb-true m n e

compliance_locked : (now : ℕ) (y : Bool) (x : Row) → now < x.until → x.mode ≡ compliance → locked now y x ≡ false → ⊥
unfolding locked
compliance_locked now y x l m e =
    let n = (or_none (eqb x.hold 1) _ e).1 in
    true≢false (rw (lt-ltb now x.until l, m) at n)

compliance_admits : (now : ℕ) (y : Bool) (x : Row) (r : Retention) → now < x.until → x.mode ≡ compliance → admits now y x r ≡ true → (or_zero r.mode ≡ compliance) × (x.until ≤ or_zero r.date)
unfolding admits
compliance_admits now y x r l e p =
    let q : (is_the compliance r.mode && no_earlier x.until r.date) ≡ true = rw (lt-ltb now x.until l, e) at p in
    (the_is compliance r.mode (and_l _ _ q), late_is x.until r.date (and_r (is_the compliance r.mode) _ q))

pub compliance_lasts : (xs : List Row) (now : ℕ) (w : Verb) (v d : ℕ) → now < d → Lasts xs now w v (InCompliance d)
compliance_lasts xs now w v d l =
    record {
      relock = λ x r y s p k n. let a = compliance_admits now y x r (omega (arith, s.1)) s.0 p in (a.0, omega (arith, s.1, a.1));
      rehold = λ x on s n. s;
      stay = λ x y s e n. compliance_locked now y x (omega (arith, s.1)) s.0 e;
    }

-- ## GOVERNANCE

governance_locked : (now : ℕ) (x : Row) → now < x.until → x.mode ≡ governance → locked now false x ≡ false → ⊥
unfolding locked
governance_locked now x l m e =
    let n = (or_none (eqb x.hold 1) _ e).1 in
    true≢false (rw (lt-ltb now x.until l, m) at n)

mode_is : (m : Option ℕ) → is_some m ≡ true → is_mode_field m ≡ true → (or_zero m ≡ governance) ⊎ (or_zero m ≡ compliance)
mode_is None e f = absurd (false≢true e)
mode_is (Some m) e f =
    elim (or_one (eqb m governance) _ f) [
      | inl g ↦ inl (eqb-true m governance g)
      | inr g ↦ inr (eqb-true m compliance g)
    ]

governance_admits : (now : ℕ) (x : Row) (r : Retention) → now < x.until → x.mode ≡ governance → admits now false x r ≡ true → (is_some r.mode ≡ true) × (x.until ≤ or_zero r.date)
unfolding admits
governance_admits now x r l e p =
    let q : (is_some r.mode && no_earlier x.until r.date) ≡ true = rw (lt-ltb now x.until l, e) at p in
    (and_l _ _ q, late_is x.until r.date (and_r (is_some r.mode) _ q))

governance_relocked : (now d : ℕ) (x : Row) (r : Retention) → now < d → InGovernance d x → admits now false x r ≡ true → is_mode_field r.mode ≡ true → InGovernance d (set_retention (or_zero r.mode) (or_zero r.date) x)
governance_relocked now d x r l s p k =
    elim s.0 [
      | inl e ↦ let a = governance_admits now x r (omega (arith, s.1)) e p in (mode_is r.mode a.0 k, omega (arith, s.1, a.1))
      | inr e ↦ let a = compliance_admits now false x r (omega (arith, s.1)) e p in (inr a.0, omega (arith, s.1, a.1))
    ]

governance_stays : (now d : ℕ) (x : Row) → now < d → InGovernance d x → locked now false x ≡ false → ⊥
governance_stays now d x l s e =
    elim s.0 [
      | inl m ↦ governance_locked now x (omega (arith, s.1)) m e
      | inr m ↦ compliance_locked now false x (omega (arith, s.1)) m e
    ]

pub governance_lasts : (xs : List Row) (now : ℕ) (w : Verb) (v d : ℕ) → now < d → (names_in xs v w && bypass_of w) ≡ false → Lasts xs now w v (InGovernance d)
governance_lasts xs now w v d l none_bypasses =
    record {
      relock = λ x r y s p k n. governance_relocked now d x r l s (rw (n none_bypasses) at p) k;
      rehold = λ x on s n. s;
      stay = λ x y s e n. governance_stays now d x l s (rw (n none_bypasses) at e);
    }

-- ## Hold

hold_locked : (now : ℕ) (y : Bool) (x : Row) → x.hold ≡ 1 → locked now y x ≡ false → ⊥
unfolding locked
hold_locked now y x h e = true≢false (rw h at e)

pub hold_lasts : (xs : List Row) (now : ℕ) (w : Verb) (v : ℕ) → (names_in xs v w && hold_off w) ≡ false → Lasts xs now w v OnHold
hold_lasts xs now w v none_off =
    record {
      relock = λ x r y s p k n. s;
      rehold = λ x on s n. rw (n none_off);
      stay = λ x y s e n. hold_locked now y x s e;
    }
