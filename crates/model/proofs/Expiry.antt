-- What a sweep marks and removes, told by midnights.
use Prim.Native.Nat.{ℕ, zero, suc, ◌+◌, ◌≤◌, ◌<◌}
use mathlib.Core.Path.{◌≡◌, refl, sym, ◌∙◌, ap}
use mathlib.Core.Logic.{inl, inr}
use mathlib.Core.Bool.{Bool, true, false, not, ◌&&◌, false≢true, and-false, and_comm}
use mathlib.Core.List.{List, [], ◌∷◌, ◌++◌, append_assoc}
use Rattle.std.specs.Prelude.{Option, Some, None}
use native.Mathlib.Omega.{arith}
use lib.Dec.{eqb, leb}
use lib.ListN.{get_or}
use borrow.Author.Tests.{eqb-true, eq-eqb, ne_eqb, leb-true, le-leb, not-true}
use Rattle.buffers.specs.Choices.{pick}
use Rattle.buffers.specs.Lists.{all, first, same, begins}
use Rattle.buffers.proofs.Choices.{pick_ways}
use Rattle.buffers.proofs.Tests.{either, clash, and_l, and_r, or_r, or_one}
use Rattle.buffers.proofs.Lists.{same_refl, same_sym, all_middle, first_none, first_skip, FoundAt, found_at}
use Rattle.calendar.specs.Periods.{expires_at}
use Rattle.calendar.specs.declared.Now.{Now}
use Rattle.calendar.proofs.Periods.{expired_came, came_expired}
use Rattle.model.specs.Rows.{Row, is_data, ordered}
use Rattle.model.specs.Settings.{Rule, Bucket, absent_rule, is_set, sound}
use Rattle.model.specs.Requests.{Sweep, Context}
use Rattle.model.specs.Time.{now_of}
use Rattle.model.specs.Locks.{locked}
use Rattle.model.specs.declared.Fate.{Fate}
use Rattle.model.specs.declared.Fate.TheVariants.{Stays, Goes, Gains}
use Rattle.model.specs.Sweep.{marker, applying, due, current_fate, fate, in_place, marks, swept, counted}
use Rattle.model.specs.Effects.{row_of, same_version, rows_after, after}
use Rattle.model.specs.Expiry.{Expired, by_number, by_key, CurrentExpired, NoncurrentExpired, SweptByMidnights}
use Rattle.model.proofs.Sweeping.{last_of, last_of_lem, swept_append, all_swept}
use Rattle.model.proofs.SoundRows.{row_parts, version_refl, others_before, others_behind}
use Rattle.model.proofs.Invariant.{asked}
use Rattle.model.proofs.Sound.{whole}

-- ## Due is expired

module _ (days : Rule → ℕ) (acts : (u : Rule) → (days u ≡ 0 → ⊥) → is_set u ≡ true) (k : List ℕ) (since now : ℕ) where
  due_expired : (us : List Rule) → due days (applying us k) now since ≡ true → Expired days us k since now
  due_expired [] e = absurd (false≢true e)
  due_expired (u ∷ us) e =
      elim (either (is_set u && begins u.prefix k)) [
        | inl a ↦ elim (or_one (not (eqb (days u) 0) && leb (expires_at since (days u)) now) _ (rw a at e)) [
          | inl h ↦ here a h
          | inr h ↦ later (due_expired us h)
        ]
        | inr a ↦ later (due_expired us (rw a at e))
      ]
    where
      here : is_set u && begins u.prefix k ≡ true → not (eqb (days u) 0) && leb (expires_at since (days u)) now ≡ true → Expired days (u ∷ us) k since now
      here a h =
          record {
            place = 0;
            begins_key = and_r (is_set u) _ a;
            has_days = λ z. clash (eqb (days u) 0) (eq-eqb (days u) 0 z) (not-true _ (and_l _ _ h));
            has_come = expired_came since (days u) now (leb-true _ _ (and_r (not (eqb (days u) 0)) _ h));
          }

      later : Expired days us k since now → Expired days (u ∷ us) k since now
      later x = record { place = suc x.place; begins_key = x.begins_key; has_days = x.has_days; has_come = x.has_come }

  pub expired_due : (us : List Rule) → Expired days us k since now → due days (applying us k) now since ≡ true
  expired_due us x = at x.place us x.begins_key x.has_days (le-leb _ now (came_expired since (days (get_or us x.place absent_rule)) now x.has_come))
    where
      at : (i : ℕ) (us : List Rule) → begins (get_or us i absent_rule).prefix k ≡ true → (days (get_or us i absent_rule) ≡ 0 → ⊥) → leb (expires_at since (days (get_or us i absent_rule))) now ≡ true
          → due days (applying us k) now since ≡ true
      at i [] b h l = absurd (false≢true (acts absent_rule h))
      at zero (u ∷ us) b h l = simp (acts u h, b, ne_eqb (days u) 0 h, l)
      at (suc i) (u ∷ us) b h l =
          elim (either (is_set u && begins u.prefix k)) [
            | inl a ↦ rw a (or_r (not (eqb (days u) 0) && leb (expires_at since (days u)) now) _ (at i us b h l))
            | inr a ↦ rw a (at i us b h l)
          ]

  not_expired : (us : List Rule) → (Expired days us k since now → ⊥) → due days (applying us k) now since ≡ false
  not_expired us h =
      elim (either (due days (applying us k) now since)) [
        | inl e ↦ absurd (h (due_expired us e))
        | inr e ↦ e
      ]

current_acts : (u : Rule) → (u.current_days ≡ 0 → ⊥) → is_set u ≡ true
current_acts u h = rw (ne_eqb u.current_days 0 h)

pub noncurrent_acts : (u : Rule) → (u.noncurrent_days ≡ 0 → ⊥) → is_set u ≡ true
noncurrent_acts u h =
    elim (either (eqb u.current_days 0)) [
      | inl e ↦ simp (e, ne_eqb u.noncurrent_days 0 h)
      | inr e ↦ rw e
    ]

-- ## What a sweep leaves of one row

module _ (rules : List Rule) (now : Now) (p : Row → Bool) (lo : ℕ) (fails : (x : Row) (m : ℕ) → not (p x) ≡ true → lo ≤ m → not (p (marker now.stamp m x.key)) ≡ true) where
  -- Where no row passes a test, nor a marker on one, nothing passes that the sweep leaves of them.
  none_left : (n : ℕ) (o : Option Row) (xs : List Row) → lo ≤ n → all (λ x. not (p x)) xs ≡ true → all (λ x. not (p x)) (swept rules now n o xs) ≡ true
  none_left n o xs l e = all_swept (λ x. not (p x)) rules now lo (n + counted marks rules now.judge o xs) (λ x m h b _. fails x m h b) n o xs l (omega arith) e

  -- So the first that passes is looked for behind them.
  first_behind : (n : ℕ) (early rest : List Row) → lo ≤ n → all (λ x. not (p x)) early ≡ true
      → first p (swept rules now n None (early ++ rest)) ≡ first p (swept rules now (n + counted marks rules now.judge None early) (last_of None early) rest)
  first_behind n early rest l e = ap (first p) (swept_append rules now n None early rest) ∙ first_skip p (swept rules now n None early) _ (none_left n None early l e)

-- ## Under its own number

-- What a fate leaves of the row itself.
abbrev left_by : Fate → Row → Option Row
left_by Stays x = Some x
left_by Goes x = None
left_by Gains x = Some x

module _ (rules : List Rule) (now : Now) (x : Row) (next : ℕ) (below : x.number < next) where
  -- A marker has a higher number.
  marker_other : (z : Row) (m : ℕ) → not (same_version x z) ≡ true → next ≤ m → not (same_version x (marker now.stamp m z.key)) ≡ true
  marker_other z m e l =
      elim (either (same x.key z.key)) [
        | inl t ↦ simp (t, ne_eqb x.number m (λ q. omega arith))
        | inr t ↦ rw t
      ]

  left_in_place : (f : Fate) (n : ℕ) (rest : List Row) → next ≤ n → first (same_version x) rest ≡ None → first (same_version x) (in_place f now.stamp n x ++ rest) ≡ left_by f x
  left_in_place Stays n rest l e = rw (version_refl x)
  left_in_place Goes n rest l e = e
  left_in_place Gains n rest l e =
      let m : same_version x (marker now.stamp n x.key) ≡ false = simp (same_refl x.key, ne_eqb x.number n (λ q. omega arith)) in
      rw (m, version_refl x)

  version_left : (early late : List Row) → ordered (early ++ x ∷ late) ≡ true → first (same_version x) (swept rules now next None (early ++ x ∷ late)) ≡ left_by (fate rules now.judge (last_of None early) x) x
  version_left early late o =
      let f = fate rules now.judge (last_of None early) x in
      let n : ℕ = next + counted marks rules now.judge None early in
      first_behind rules now (same_version x) next marker_other next early (x ∷ late) (omega arith) (others_before early x late o)
      ∙ left_in_place f n _ (omega arith)
      (first_none (same_version x) (swept rules now (n + marks f) (Some x) late)
      (none_left rules now (same_version x) next marker_other (n + marks f) (Some x) late (omega arith) (others_behind early x late o)))

-- ## A key's current row

-- The key's current row after a fate.
abbrev top_by : Fate → ℕ → ℕ → Row → Option Row
top_by Stays created n x = Some x
top_by Goes created n x = None
top_by Gains created n x = Some (marker created n x.key)

-- The row before, if there is one, is of another key.
abbrev OtherKey : List ℕ → Option Row → Type 0
OtherKey k None = Unit {0}
OtherKey k (Some y) = same y.key k ≡ false

current_fate_lem : (rules : List Rule) (t : ℕ) (o : Option Row) (x : Row) → OtherKey x.key o → fate rules t o x ≡ current_fate (applying rules x.key) t x
current_fate_lem rules t None x h = refl
current_fate_lem rules t (Some y) x h = rw h

-- A row of this key, as `row_of` looks for it where no version is named.
abbrev of_key : List ℕ → Row → Bool
of_key k y = same k y.key && true

last_other : (k : List ℕ) (o : Option Row) (early : List Row) → OtherKey k o → all (λ y. not (of_key k y)) early ≡ true → OtherKey k (last_of o early)
last_other k o [] h e = h
last_other k o (z ∷ early) h e =
    let d : same k z.key ≡ false = sym (and_comm (same k z.key) true) ∙ not-true (of_key k z) (and_l _ _ e) in
    last_other k (Some z) early (same_sym z.key k ∙ d) (and_r (not (of_key k z)) _ e)

module _ (rules : List Rule) (now : Now) (x : Row) where
  abbrev own_fate : Fate
  own_fate = current_fate (applying rules x.key) now.judge x

  top_in_place : (n : ℕ) (late : List Row) → first (of_key x.key) (in_place own_fate now.stamp n x ++ swept rules now (n + marks own_fate) (Some x) late) ≡ top_by own_fate now.stamp n x
  top_in_place n late =
      pick_ways (λ (f : Fate). first (of_key x.key) (in_place f now.stamp n x ++ swept rules now (n + marks f) (Some x) late) ≡ top_by f now.stamp n x)
      (is_data x && due (λ u. u.current_days) (applying rules x.key) now.judge x.created)
      (λ _. rw (same_refl x.key)) (λ _. rw (same_refl x.key))

  module _ (xs : List Row) (at : FoundAt (of_key x.key) xs x) where
    first_fate : fate rules now.judge (last_of None at.early) x ≡ own_fate
    first_fate = current_fate_lem rules now.judge (last_of None at.early) x (last_other x.key None at.early tt at.none_before)

    current_left : (n : ℕ) → first (of_key x.key) (swept rules now n None xs) ≡ top_by own_fate now.stamp (n + counted marks rules now.judge None at.early) x
    current_left n =
        ap (λ (l : List Row). first (of_key x.key) (swept rules now n None l)) at.list_is
        ∙ first_behind rules now (of_key x.key) 0 (λ z m h _. h) n at.early (x ∷ at.late) (omega arith) at.none_before
        ∙ rw first_fate (top_in_place (n + counted marks rules now.judge None at.early) at.late)

-- ## The statement

module _ (c : ℕ) (b : Bucket) (who : Context) (s : sound c b ≡ true) where
  abbrev rules : List Rule
  rules = b.settings.config.rules

  abbrev now : Now
  now = now_of b who

  abbrev left : Bucket
  left = after b (asked who Sweep)

  -- What any row comes to, by its fate.
  row_left : (early : List Row) (x : Row) (late : List Row) → b.rows ≡ early ++ x ∷ late → row_of left.rows (by_number x) ≡ left_by (fate rules now.judge (last_of None early) x) x
  unfolding rows_after
  row_left early x late e =
      let w = whole c b s in
      let below = (row_parts _ _ x (all_middle _ early x late (rw e at w.rows_sound))).below in
      ap (λ (xs : List Row). first (same_version x) (swept rules now b.settings.next None xs)) e ∙ version_left rules now x b.settings.next below early late (rw e at w.in_order)

  -- A key's current row.
  module _ (x : Row) (is_current : row_of b.rows (by_key x) ≡ Some x) where
    abbrev marked : Bool
    marked = is_data x && due (λ u. u.current_days) (applying rules x.key) now.judge x.created

    place : FoundAt (of_key x.key) b.rows x
    place = found_at (of_key x.key) b.rows x is_current

    kept : row_of left.rows (by_number x) ≡ Some x
    kept =
        row_left place.early x place.late place.list_is
        ∙ rw (first_fate rules now x b.rows place) (pick_ways (λ (f : Fate). left_by f x ≡ Some x) marked (λ _. refl) (λ _. refl))

    abbrev number : ℕ
    number = b.settings.next + counted marks rules now.judge None place.early

    top_is : row_of left.rows (by_key x) ≡ top_by (pick marked Gains Stays) now.stamp number x
    unfolding rows_after
    top_is = current_left rules now x b.rows place b.settings.next

    marked_is : x.kind ≡ 1 → CurrentExpired who.clock b left x → marked ≡ true
    marked_is d h = rw (eq-eqb x.kind 1 d) (expired_due _ current_acts x.key x.created now.judge rules h)

    not_marked : (x.kind ≡ 1 → CurrentExpired who.clock b left x → ⊥) → marked ≡ false
    not_marked n =
        elim (either (is_data x)) [
          | inl d ↦ rw d (not_expired _ current_acts x.key x.created now.judge rules (n (eqb-true x.kind 1 d)))
          | inr d ↦ rw d
        ]

  -- A row behind the next newer one of its key.
  module _ (early late : List Row) (newer x : Row) (rows_are : b.rows ≡ early ++ newer ∷ x ∷ late) (k : newer.key ≡ x.key) where
    abbrev gone_by : Bool
    gone_by = due (λ u. u.noncurrent_days) (applying rules x.key) now.judge newer.created

    left_is : row_of left.rows (by_number x) ≡ left_by (pick (gone_by && not (locked now.judge false x)) Goes Stays) x
    left_is = row_left (early ++ newer ∷ []) x late (rows_are ∙ sym (append_assoc early (newer ∷ []) (x ∷ late))) ∙ rw (last_of_lem None early newer, k, same_refl x.key)

    goes_when : NoncurrentExpired who.clock b left newer x → locked now.judge false x ≡ false → row_of left.rows (by_number x) ≡ None
    goes_when h l = rw (expired_due _ noncurrent_acts x.key newer.created now.judge rules h, l) at left_is

    stays_else : (NoncurrentExpired who.clock b left newer x → locked now.judge false x ≡ false → ⊥) → row_of left.rows (by_number x) ≡ Some x
    stays_else n =
        elim (either (locked now.judge false x)) [
          | inl l ↦ rw (l, and-false gone_by) at left_is
          | inr l ↦ rw (not_expired _ noncurrent_acts x.key newer.created now.judge rules (λ h. n h l)) at left_is
        ]

  pub swept_by_midnights : SweptByMidnights who.clock b left
  swept_by_midnights =
      record {
        current_kept = kept;
        current_marked = λ x e d h. (number x e, rw (marked_is x e d h) at (top_is x e));
        current_stays = λ x e n. rw (not_marked x e n) at (top_is x e);
        noncurrent_goes = goes_when;
        noncurrent_stays = stays_else;
      }
