-- What holds of the bucket and its history after every line: a version number stands at most once, below the next number, with what it was made with.
use Prim.Native.Nat.{ℕ, ◌+◌, ◌≤◌, ◌<◌}
use mathlib.Core.Path.{◌≡◌, refl, sym, ◌∙◌, ap}
use mathlib.Core.Logic.{◌⊎◌, inl, inr}
use mathlib.Core.Bool.{Bool, true, false, not, true≢false}
use mathlib.Core.List.{List, [], ◌∷◌}
use Rattle.std.specs.Prelude.{Option, Some, None}
use native.Mathlib.Omega.{arith}
use lib.Dec.{eqb, leb}
use borrow.Author.Tests.{eqb-true, eqb-false, ne_eqb, leb-true, leb-false}
use Rattle.buffers.specs.Choices.{pick, then_some, is_some, or_zero}
use Rattle.buffers.proofs.Tests.{either}
use Rattle.calendar.specs.declared.Now.{Now}
use Rattle.model.specs.Rows.{Row, is_marker}
use Rattle.model.specs.Settings.{Bucket}
use Rattle.model.specs.Requests.{Version, Name, name, Terms, Get, ListVersions, Report, Repeat, Verb, Put, Copy, Retain, Hold, AddMarker, DeleteVersion, Set, Sweep, Ask, Context, Request}
use Rattle.model.specs.Time.{now_of}
use Rattle.model.specs.Effects.{row_of, set_retention, set_hold, hold_number, new_row, added, rows_after, after}
use Rattle.model.specs.Refusals.{missing, names_marker}
use Rattle.model.specs.Answers.{done, removed, removed_marker, shown, reply, answer_to, gives_number}
use Rattle.model.specs.Run.{Event}
use Rattle.model.specs.LockClause.{History, time_after, Making, answers, making_by, made_with, making_of, versions, Held}
use Rattle.model.proofs.Versions.{insert_other, insert_new, found_some, found_one, change_none, keep_none, swept_none, swept_new}
use Rattle.model.proofs.Accepted.{Accepted}
use Rattle.model.proofs.Line.{Change, kept, relocked, reheld, dropped, changed}
use Rattle.model.proofs.History.{followed, made_snoc, time_snoc}

-- ## The invariant

-- A version's row is data with what the version was made with, or a marker.
abbrev pub Known : History → ℕ → Row → Type 0
Known past v x = ((x.kind ≡ 1) × (made_with past v ≡ Some (making_of x))) ⊎ (x.kind ≡ 2)

-- The version has no row, or one, which is known.
abbrev pub AtMostOne : List Row → History → ℕ → Type 0
AtMostOne ys past v = (ys ≡ []) ⊎ ((x : Row) × (ys ≡ x ∷ []) × Known past v x)

pub record Invariant (b : Bucket) (past : History) : Type 0 where
  pub time : b.settings.time ≡ time_after past
  pub unused : (v : ℕ) → b.settings.next ≤ v → versions v b.rows ≡ []
  pub unmade : (v : ℕ) → b.settings.next ≤ v → made_with past v ≡ None
  pub single : (v : ℕ) → AtMostOne (versions v b.rows) past v

-- An accepted line, from its parts, and the history with it at the end.
abbrev pub asked : Context → Verb → Request
asked g w = record { context = g; verb = w }

abbrev pub event_of : Bucket → Context → Verb → Event
event_of b g w = record { before = b; request = asked g w; answered = λ v. gives_number v (answer_to b (asked g w)) }

abbrev pub with : History → Bucket → Context → Verb → History
with past b g w = followed past (event_of b g w ∷ [])

-- ## The row that a line names

-- A named row that is no marker is data, stands once, and is as it was made.
pub record Found (xs : List Row) (past : History) (n : Name) (x : Row) : Type 0 where
  pub found : row_of xs n ≡ Some x
  pub once : versions x.number xs ≡ x ∷ []
  pub kind_is_data : x.kind ≡ 1
  pub made : made_with past x.number ≡ Some (making_of x)

pub find : (xs : List Row) (past : History) (n : Name) → ((v : ℕ) → AtMostOne (versions v xs) past v) → not (is_some (row_of xs n)) ≡ false → then_some (row_of xs n) false is_marker ≡ false → (x : Row) × Found xs past n x
find xs past n s f g = go (row_of xs n) refl f g
  where
    go : (o : Option Row) → row_of xs n ≡ o → not (is_some (row_of xs n)) ≡ false → then_some (row_of xs n) false is_marker ≡ false → (x : Row) × Found xs past n x
    go None q f g = absurd (true≢false (rw q at f))
    go (Some x) q f g =
        elim (s x.number) [
          | inl z ↦ absurd (found_some _ xs x q z)
          | inr y ↦
              let same : x ≡ y.0 = found_one _ xs x y.0 q y.1 in
              let known : Known past x.number x = rw same (rw same at y.2) in
              elim known [
                | inl k ↦ (x, record { found = q; once = y.1 ∙ ap (λ (r : Row). r ∷ []) (sym same); kind_is_data = k.0; made = k.1 })
                | inr k ↦ absurd (eqb-false x.kind 2 (rw q at g) k)
              ]
        ]

-- ## The rows that a line adds

-- The line makes a version whose number was not taken.
made_now : (b : Bucket) (past : History) (g : Context) (w : Verb) (v : ℕ) → made_with past v ≡ None → answers v (event_of b g w) ≡ true → made_with (with past b g w) v ≡ making_by (λ u. made_with past u) (event_of b g w) w
made_now b past g w v e m = made_snoc past (event_of b g w) v ∙ simp (e, m)

-- A version that was made before stays made with the same.
pub made_before : (b : Bucket) (past : History) (g : Context) (w : Verb) (v : ℕ) (m : Making) → made_with past v ≡ Some m → made_with (with past b g w) v ≡ Some m
made_before b past g w v m e = made_snoc past (event_of b g w) v ∙ simp e

-- A PUT's row.
pub put_held : (b : Bucket) (past : History) (g : Context) (k : List ℕ) (body size : ℕ) (t : Terms) → Invariant b past → (v : ℕ) → eqb b.settings.next v ≡ true → Held (after b (asked g (Put k body size t))) (with past b g (Put k body size t)) v (λ x. x ≡ new_row b.settings (now_of b g).stamp k body size t)
unfolding rows_after reply
put_held b past g k body size t i v e =
    let here : b.settings.next ≤ v = omega (arith, eqb-true b.settings.next v e) in
    record {
      row = new_row b.settings (now_of b g).stamp k body size t;
      once = insert_new v _ b.rows e (i.unused v here);
      is_data = refl;
      unaltered = made_now b past g (Put k body size t) v (i.unmade v here) e;
      lock = refl;
    }

-- A COPY's row.
abbrev pub copy_row : Bucket → Context → Name → List ℕ → Terms → Row
copy_row b g n k t = new_row b.settings (now_of b g).stamp k (then_some (row_of b.rows n) 0 (λ x. x.body)) (then_some (row_of b.rows n) 0 (λ x. x.size)) t

pub copy_held : (c : ℕ) (b : Bucket) (past : History) (g : Context) (n : Name) (k : List ℕ) (t : Terms) → Accepted c b g (now_of b g) (Copy n k t) → Invariant b past → (v : ℕ) → eqb b.settings.next v ≡ true → Held (after b (asked g (Copy n k t))) (with past b g (Copy n k t)) v (λ x. x ≡ copy_row b g n k t)
unfolding rows_after reply missing names_marker
copy_held c b past g n k t p i v e =
    let here : b.settings.next ≤ v = omega (arith, eqb-true b.settings.next v e) in
    let s = find b.rows past n i.single p.present p.no_marker in
    record {
      row = copy_row b g n k t;
      once = insert_new v _ b.rows e (i.unused v here);
      is_data = refl;
      unaltered = made_now b past g (Copy n k t) v (i.unmade v here) e ∙ simp (s.1.found, s.1.made);
      lock = refl;
    }

-- ## The invariant is kept

-- A number that was not taken: it still has no row, or the line has taken it.
abbrev Numbered : History → ℕ → ℕ → List Row → Type 0
Numbered past next v ys = (ys ≡ []) ⊎ ((x : Row) × (ys ≡ x ∷ []) × Known past v x × (v < next))

held_numbered : {b : Bucket} {past : History} {v : ℕ} {L : Row → Type 0} → (n : ℕ) → v < n → Held b past v L → Numbered past n v (versions v b.rows)
held_numbered n l s = inr (s.row, s.once, inl (s.is_data, s.unaltered), l)

next_is : (n v : ℕ) → eqb n v ≡ true → v < n + 1
next_is n v e = omega (arith, eqb-true n v e)

numbered_after : (c : ℕ) (b : Bucket) (past : History) (g : Context) (w : Verb) → Accepted c b g (now_of b g) w → Invariant b past → (v : ℕ) → b.settings.next ≤ v → Numbered (with past b g w) (b.settings.next + added b (now_of b g) w) v (versions v (rows_after b (now_of b g) w))
unfolding rows_after added
numbered_after c b past g (Put k body size t) p i v l =
    elim (either (eqb b.settings.next v)) [
      | inl e ↦ held_numbered (b.settings.next + 1) (next_is b.settings.next v e) (put_held b past g k body size t i v e)
      | inr e ↦ inl (insert_other v _ b.rows e ∙ i.unused v l)
    ]
numbered_after c b past g (Copy n k t) p i v l =
    elim (either (eqb b.settings.next v)) [
      | inl e ↦ held_numbered (b.settings.next + 1) (next_is b.settings.next v e) (copy_held c b past g n k t p i v e)
      | inr e ↦ inl (insert_other v _ b.rows e ∙ i.unused v l)
    ]
numbered_after c b past g (Retain n r y) p i v l = inl (change_none v _ _ (λ _. refl) b.rows (i.unused v l))
numbered_after c b past g (Hold n on) p i v l = inl (change_none v _ _ (λ _. refl) b.rows (i.unused v l))
numbered_after c b past g (AddMarker k y) p i v l =
    elim (either (eqb b.settings.next v)) [
      | inl e ↦ inr (_, insert_new v _ b.rows e (i.unused v l), inr refl, next_is b.settings.next v e)
      | inr e ↦ inl (insert_other v _ b.rows e ∙ i.unused v l)
    ]
numbered_after c b past g (DeleteVersion k u y) p i v l = inl (keep_none v _ b.rows (i.unused v l))
numbered_after c b past g (Set s) p i v l = inl (i.unused v l)
numbered_after c b past g Sweep p i v l =
    elim (swept_new b.settings.config.rules (now_of b g) b.settings.next None b.rows v l (i.unused v l)) [
      | inl s ↦ inl s.0
      | inr s ↦ inr (s.0, s.1, inr s.2, s.3)
    ]
numbered_after c b past g (Ask q) p i v l = inl (i.unused v l)

-- A number that was taken and has no row gets none.
none_after : (b : Bucket) (now : Now) (w : Verb) (v : ℕ) → v < b.settings.next → versions v b.rows ≡ [] → versions v (rows_after b now w) ≡ []
unfolding rows_after
none_after b now (Put k body size t) v l e = insert_other v _ b.rows (ne_eqb _ v (λ q. omega arith)) ∙ e
none_after b now (Copy n k t) v l e = insert_other v _ b.rows (ne_eqb _ v (λ q. omega arith)) ∙ e
none_after b now (Retain n r y) v l e = change_none v _ _ (λ _. refl) b.rows e
none_after b now (Hold n on) v l e = change_none v _ _ (λ _. refl) b.rows e
none_after b now (AddMarker k y) v l e = insert_other v _ b.rows (ne_eqb _ v (λ q. omega arith)) ∙ e
none_after b now (DeleteVersion k u y) v l e = keep_none v _ b.rows e
none_after b now (Set s) v l e = e
none_after b now Sweep v l e = swept_none b.settings.config.rules now b.settings.next None b.rows v l e
none_after b now (Ask q) v l e = e

-- The answer to a DELETE or a GET makes no version.
pub removal_answers : (a : Bool) (u : Version) (v : ℕ) → gives_number v (pick a (removed_marker u) (removed u)) ≡ false
removal_answers true u v = refl
removal_answers false u v = refl

pub shown_answers : (o : Option Row) (v : ℕ) → gives_number v (then_some o done (λ x. shown x)) ≡ false
shown_answers None v = refl
shown_answers (Some x) v = refl

-- A line makes no version whose number it leaves for later.
not_made : (b : Bucket) (g : Context) (w : Verb) (v : ℕ) → b.settings.next + added b (now_of b g) w ≤ v → answers v (event_of b g w) ≡ false
unfolding added reply
not_made b g (Put k body size t) v l = ne_eqb _ v (λ q. omega arith)
not_made b g (Copy n k t) v l = ne_eqb _ v (λ q. omega arith)
not_made b g (Retain n r y) v l = refl
not_made b g (Hold n on) v l = refl
not_made b g (AddMarker k y) v l = refl
not_made b g (DeleteVersion k u y) v l = removal_answers (then_some (row_of b.rows (name k (Some u))) false is_marker) u v
not_made b g (Set s) v l = refl
not_made b g Sweep v l = refl
not_made b g (Ask (Get n)) v l = shown_answers (row_of b.rows n) v
not_made b g (Ask (ListVersions p)) v l = refl
not_made b g (Ask (Report prefix)) v l = refl
not_made b g (Ask (Repeat u)) v l = refl

-- What a line leaves of a known row is known.
known_after : (b : Bucket) (past : History) (g : Context) (w : Verb) (v : ℕ) (x y : Row) → y.kind ≡ x.kind → making_of y ≡ making_of x → Known past v x → Known (with past b g w) v y
known_after b past g w v x y k m (inl s) = inl (k ∙ s.0, rw m (made_before b past g w v (making_of x) s.1))
known_after b past g w v x y k m (inr s) = inr (k ∙ s)

one_after : (b : Bucket) (past : History) (g : Context) (w : Verb) (v : ℕ) (x : Row) (ys : List Row) → Known past v x → Change b.rows (now_of b g).judge w v x ys → AtMostOne ys (with past b g w) v
one_after b past g w v x ys s (kept e) = inr (x, e, known_after b past g w v x x refl refl s)
one_after b past g w v x ys s (relocked r y e p q n) =
    inr (_, e, known_after b past g w v x (set_retention (or_zero r.mode) (or_zero r.date) x) refl refl s)
one_after b past g w v x ys s (reheld on e n) = inr (_, e, known_after b past g w v x (set_hold (hold_number on) x) refl refl s)
one_after b past g w v x ys s (dropped y e p n) = inl e

pub invariant_after : (c : ℕ) (b : Bucket) (past : History) (g : Context) (w : Verb) → Accepted c b g (now_of b g) w → Invariant b past → Invariant (after b (asked g w)) (with past b g w)
invariant_after c b past g w p i =
    record {
      time = sym (time_snoc past (event_of b g w) ∙ rw (sym i.time));
      unused = λ v l. elim (numbered_after c b past g w p i v (omega arith)) [ inl e ↦ e | inr s ↦ absurd (omega (arith, s.3)) ];
      unmade = λ v l. made_snoc past (event_of b g w) v ∙ simp (i.unmade v (omega arith), not_made b g w v l);
      single = λ v. elim (either (leb b.settings.next v)) [
        | inl e ↦ elim (numbered_after c b past g w p i v (leb-true b.settings.next v e)) [ inl s ↦ inl s | inr s ↦ inr (s.0, s.1, s.2) ]
        | inr e ↦
            let old = leb-false b.settings.next v e in
            elim (i.single v) [
              | inl s ↦ inl (none_after b (now_of b g) w v old s)
              | inr s ↦ one_after b past g w v s.0 _ s.2 (changed c b g (now_of b g) w p v s.0 old s.1)
            ]
      ];
    }
