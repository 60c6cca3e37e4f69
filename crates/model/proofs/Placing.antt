-- The line that puts a version under a lock leaves its row so.
use Prim.Native.Nat.{ℕ, ◌<◌}
use mathlib.Core.Path.{◌≡◌, refl, sym, ◌∙◌}
use mathlib.Core.Logic.{inl, inr}
use mathlib.Core.Bool.{Bool, true, false, ◌&&◌, false≢true}
use Rattle.std.specs.Prelude.{Option, Some, None}
use native.Mathlib.Omega.{arith}
use lib.Dec.{eqb}
use borrow.Author.Tests.{eqb-true, ne_eqb}
use Rattle.buffers.specs.Choices.{then_some, or_zero}
use Rattle.buffers.specs.Lists.{change}
use Rattle.buffers.proofs.Tests.{and_l, and_r, or_one}
use Rattle.model.specs.Rows.{Row}
use Rattle.model.specs.Settings.{Bucket}
use Rattle.model.specs.Requests.{Name, Retention, Verb, Put, Copy, Retain, Hold, AddMarker, DeleteVersion, Set, Sweep, Ask, Context, is_the}
use Rattle.model.specs.Time.{now_of, default_end, new_mode, new_until}
use Rattle.model.specs.Effects.{row_of, is_named, set_retention, set_hold, hold_number, new_hold, rows_after, after}
use Rattle.model.specs.Refusals.{missing, names_marker}
use Rattle.model.specs.Answers.{reply}
use Rattle.model.specs.Run.{Event}
use Rattle.model.specs.LockClause.{History, answers, makes, gives, puts_under, is_on, puts_on_hold, making_of, Held, OnHold}
use Rattle.model.proofs.Versions.{change_version, found_named}
use Rattle.model.proofs.Accepted.{Accepted}
use Rattle.model.proofs.Invariant.{Invariant, asked, event_of, with, Found, find, made_before, put_held, copy_held}
use Rattle.model.proofs.Locks.{the_is}

pub held_as : {b : Bucket} {past : History} {v : ℕ} {L M : Row → Type 0} → Held b past v L → ((x : Row) → L x → M x) → Held b past v M
held_as s f = record { row = s.row; once = s.once; is_data = s.is_data; unaltered = s.unaltered; lock = f s.row s.lock }

-- The row is under the mode until d.
abbrev pub Under : ℕ → ℕ → Row → Type 0
Under mode d x = (x.mode ≡ mode) × (x.until ≡ d)

-- The lock fields of a PUT or COPY that put its version under a mode until d give its row that mode and date.
given_under : (b : Bucket) (g : Context) (w : Verb) (mode d : ℕ) (r : Retention) → (o : Option ℕ) → r.mode ≡ o → 0 < mode → gives mode d (event_of b g w) r ≡ true → (new_mode b.settings.config r ≡ mode) × (new_until b.settings.config (now_of b g).stamp r ≡ d)
given_under b g w mode d r None q l e =
    let f : (eqb b.settings.config.default.mode mode && eqb (default_end b.settings.config (now_of b g).stamp) d) ≡ true = rw q at e in
    let m : b.settings.config.default.mode ≡ mode = eqb-true _ mode (and_l _ _ f) in
    let has : eqb b.settings.config.default.mode 0 ≡ false = ne_eqb b.settings.config.default.mode 0 (λ z. omega arith) in
    (rw q m, simp (q, has) (eqb-true _ d (and_r (eqb b.settings.config.default.mode mode) _ f)))
given_under b g w mode d r (Some n) q l e =
    elim (or_one (is_the mode r.mode && is_the d r.date) _ e) [
      | inl f ↦
          let m : n ≡ mode = eqb-true n mode (rw q at (and_l (is_the mode r.mode) _ f)) in
          (rw q m, rw q (the_is d r.date (and_r (is_the mode r.mode) _ f)))
      | inr f ↦ absurd (false≢true (rw q at f))
    ]

-- The row that a line names, changed in place.
named_held : (b : Bucket) (past : History) (g : Context) (w : Verb) (n : Name) (f : Row → Row) → ((y : Row) → (f y).number ≡ y.number) → ((y : Row) → (f y).kind ≡ y.kind) → ((y : Row) → making_of (f y) ≡ making_of y) → rows_after b (now_of b g) w ≡ change (is_named b.rows n) f b.rows → ((x : Row) × Found b.rows past n x) → (v : ℕ) → then_some (row_of b.rows n) false (λ y. eqb y.number v) ≡ true → (x : Row) × Held (after b (asked g w)) (with past b g w) v (λ y. y ≡ f x)
named_held b past g w n f same_number same_kind same_making rows (x, s) v e =
    let is : x.number ≡ v = eqb-true x.number v (rw s.found at e) in (
      x,
      record {
        row = f x;
        once = rw (rows, sym is) (change_version x.number (is_named b.rows n) f same_number b.rows x s.once ∙ rw (found_named b.rows n x s.found));
        is_data = same_kind x ∙ s.kind_is_data;
        unaltered = rw (sym is, same_making x) (made_before b past g w x.number (making_of x) s.made);
        lock = refl;
      },
    )

retain_held : (c : ℕ) (b : Bucket) (past : History) (g : Context) (n : Name) (r : Retention) (y : Bool) → Accepted c b g (now_of b g) (Retain n r y) → Invariant b past → (v : ℕ) → then_some (row_of b.rows n) false (λ x. eqb x.number v) ≡ true → Held (after b (asked g (Retain n r y))) (with past b g (Retain n r y)) v (Under (or_zero r.mode) (or_zero r.date))
unfolding rows_after missing names_marker
retain_held c b past g n r y p i v e =
    let s = named_held b past g (Retain n r y) n (set_retention (or_zero r.mode) (or_zero r.date)) (λ _. refl) (λ _. refl) (λ _. refl) refl (find b.rows past n i.single p.present p.no_marker) v e in
    held_as s.1 (λ x q. rw q (refl, refl))

hold_held : (c : ℕ) (b : Bucket) (past : History) (g : Context) (n : Name) (on : Bool) → Accepted c b g (now_of b g) (Hold n on) → Invariant b past → (v : ℕ) → then_some (row_of b.rows n) false (λ x. eqb x.number v) ≡ true → Held (after b (asked g (Hold n on))) (with past b g (Hold n on)) v (λ x. x.hold ≡ hold_number on)
unfolding rows_after missing names_marker
hold_held c b past g n on p i v e =
    let s = named_held b past g (Hold n on) n (set_hold (hold_number on)) (λ _. refl) (λ _. refl) (λ _. refl) refl (find b.rows past n i.single p.present p.no_marker) v e in
    held_as s.1 (λ x q. rw q refl)

-- The line makes the version, and something else holds of it.
makes_and : (past : History) (v : ℕ) (e : Event) (t : Bool) → (makes past v e && t) ≡ true → (answers v e ≡ true) × (t ≡ true)
makes_and past v e t h = (and_l (answers v e) _ (and_l (makes past v e) _ h), and_r (makes past v e) _ h)

-- The line that puts the version under a mode until d.
pub puts_held : (c : ℕ) (b : Bucket) (past : History) (g : Context) (w : Verb) → Accepted c b g (now_of b g) w → Invariant b past → (mode d v : ℕ) → 0 < mode → puts_under past mode d v (event_of b g w) ≡ true → Held (after b (asked g w)) (with past b g w) v (Under mode d)
unfolding reply
puts_held c b past g (Put k body size t) p i mode d v l e =
    let m = makes_and past v (event_of b g (Put k body size t)) (gives mode d (event_of b g (Put k body size t)) t.retention) e in
    let f = given_under b g (Put k body size t) mode d t.retention t.retention.mode refl l m.1 in
    held_as (put_held b past g k body size t i v m.0) (λ x q. rw q f)
puts_held c b past g (Copy n k t) p i mode d v l e =
    let m = makes_and past v (event_of b g (Copy n k t)) (gives mode d (event_of b g (Copy n k t)) t.retention) e in
    let f = given_under b g (Copy n k t) mode d t.retention t.retention.mode refl l m.1 in
    held_as (copy_held c b past g n k t p i v m.0) (λ x q. rw q f)
puts_held c b past g (Retain n r y) p i mode d v l e =
    let named : then_some (row_of b.rows n) false (λ x. eqb x.number v) ≡ true = and_l _ _ e in
    let f : (is_the mode r.mode && is_the d r.date) ≡ true = and_r (then_some (row_of b.rows n) false (λ x. eqb x.number v)) _ e in
    held_as (retain_held c b past g n r y p i v named) (λ x q. (q.0 ∙ the_is mode r.mode (and_l _ _ f), q.1 ∙ the_is d r.date (and_r (is_the mode r.mode) _ f)))
puts_held c b past g (Hold n on) p i mode d v l e = absurd (false≢true e)
puts_held c b past g (AddMarker k y) p i mode d v l e = absurd (false≢true e)
puts_held c b past g (DeleteVersion k u y) p i mode d v l e = absurd (false≢true e)
puts_held c b past g (Set s) p i mode d v l e = absurd (false≢true e)
puts_held c b past g Sweep p i mode d v l e = absurd (false≢true e)
puts_held c b past g (Ask q) p i mode d v l e = absurd (false≢true e)

on_is : (o : Option Bool) → is_on o ≡ true → new_hold o ≡ 1
on_is None e = absurd (false≢true e)
on_is (Some on) e = rw e

-- The line that puts the version on hold.
pub holds_held : (c : ℕ) (b : Bucket) (past : History) (g : Context) (w : Verb) → Accepted c b g (now_of b g) w → Invariant b past → (v : ℕ) → puts_on_hold past v (event_of b g w) ≡ true → Held (after b (asked g w)) (with past b g w) v OnHold
unfolding reply
holds_held c b past g (Put k body size t) p i v e =
    let m = makes_and past v (event_of b g (Put k body size t)) (is_on t.hold) e in
    held_as (put_held b past g k body size t i v m.0) (λ x q. rw q (on_is t.hold m.1))
holds_held c b past g (Copy n k t) p i v e =
    let m = makes_and past v (event_of b g (Copy n k t)) (is_on t.hold) e in
    held_as (copy_held c b past g n k t p i v m.0) (λ x q. rw q (on_is t.hold m.1))
holds_held c b past g (Retain n r y) p i v e = absurd (false≢true e)
holds_held c b past g (Hold n on) p i v e =
    let named : then_some (row_of b.rows n) false (λ x. eqb x.number v) ≡ true = and_l _ _ e in
    let turned_on : on ≡ true = and_r (then_some (row_of b.rows n) false (λ x. eqb x.number v)) _ e in
    held_as (hold_held c b past g n on p i v named) (λ x q. q ∙ rw turned_on)
holds_held c b past g (AddMarker k y) p i v e = absurd (false≢true e)
holds_held c b past g (DeleteVersion k u y) p i v e = absurd (false≢true e)
holds_held c b past g (Set s) p i v e = absurd (false≢true e)
holds_held c b past g Sweep p i v e = absurd (false≢true e)
holds_held c b past g (Ask q) p i v e = absurd (false≢true e)
