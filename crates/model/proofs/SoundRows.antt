-- Sound rows: their parts, and that what a line adds or changes is sound.
use Prim.Native.Nat.{ℕ, ◌+◌, ◌≤◌, ◌<◌}
use mathlib.Core.Path.{◌≡◌, refl, sym}
use mathlib.Core.Logic.{inl, inr}
use mathlib.Core.Bool.{Bool, true, false, not, ◌&&◌, ◌||◌, true≢false}
use mathlib.Core.List.{List, [], ◌∷◌, ◌++◌}
use Rattle.std.specs.Prelude.{Option, Some, None}
use native.Mathlib.Omega.{arith}
use lib.Dec.{eqb, leb, ltb}
use borrow.Author.Tests.{eqb-true, eq-eqb, ne_eqb, ltb-true, ltb-false, leb-true, leb-false, lt-ltb, le-leb}
use Rattle.buffers.specs.Choices.{pick, then_some, is_some, or_zero}
use Rattle.buffers.specs.Lists.{all, first, change, same}
use Rattle.buffers.proofs.Tests.{either, clash, and_i, and_l, and_r, or_l, or_r, or_one}
use Rattle.buffers.proofs.Lists.{same_path, same_refl, all_as, all_first, all_middle, all_change, all_both}
use Rattle.text.specs.Keys.{is_key}
use Rattle.calendar.specs.Calendar.{latest}
use Rattle.calendar.proofs.Periods.{period_positive}
use Rattle.model.specs.Rows.{Row, is_data, is_marker, is_mode, governance, compliance, bodies, largest_size, before, ahead, ordered, sound_retention, sound_data, sound_marker, sound_row, Dated}
use Rattle.model.specs.Settings.{Config, Settings, has_default, is_period, sound_default}
use Rattle.model.specs.Requests.{Name, Retention, Terms, is_mode_field, is_date_field, is_retention}
use Rattle.model.specs.Time.{default_end, new_mode, new_until}
use Rattle.model.specs.Sweep.{marker}
use Rattle.model.specs.Effects.{row_of, same_version, is_named, set_retention, set_hold, new_hold, new_row}
use Rattle.model.specs.Refusals.{one_of, retention_half, default_too_late}
use Rattle.model.proofs.Order.{before_irrefl}

-- ## The parts of a sound row

pub record SoundRow (next time : ℕ) (x : Row) : Type 0 where
  pub from_one : 1 ≤ x.number
  pub below : x.number < next
  pub by_now : x.created ≤ time
  pub key_fits : is_key x.key ≡ true
  pub rest : pick (is_data x) (sound_data x) (is_marker x && sound_marker x) ≡ true

pub row_parts : (n t : ℕ) (x : Row) → sound_row n t x ≡ true → SoundRow n t x
unfolding sound_row
row_parts n t x e =
    let e₁ = and_r (leb 1 x.number) _ e in
    let e₂ = and_r (ltb x.number n) _ e₁ in
    let e₃ = and_r (leb x.created t) _ e₂ in
    record {
      from_one = leb-true 1 x.number (and_l _ _ e);
      below = ltb-true x.number n (and_l _ _ e₁);
      by_now = leb-true x.created t (and_l _ _ e₂);
      key_fits = and_l _ _ e₃;
      rest = and_r (is_key x.key) _ e₃;
    }

pub row_whole : (n t : ℕ) (x : Row) → SoundRow n t x → sound_row n t x ≡ true
unfolding sound_row
row_whole n t x s =
    and_i (leb 1 x.number) _ (le-leb 1 x.number s.from_one)
    (and_i (ltb x.number n) _ (lt-ltb x.number n s.below)
    (and_i (leb x.created t) _ (le-leb x.created t s.by_now) (and_i (is_key x.key) _ s.key_fits s.rest)))

-- A sound row stays sound as the next number and the time grow.
pub row_later : (n t n' t' : ℕ) (x : Row) → n ≤ n' → t ≤ t' → sound_row n t x ≡ true → sound_row n' t' x ≡ true
row_later n t n' t' x l m e =
    let s = row_parts n t x e in
    row_whole n' t' x (record { from_one = s.from_one; below = omega arith; by_now = omega arith; key_fits = s.key_fits; rest = s.rest })

-- A row that is no marker is data.
pub row_data : (n t : ℕ) (x : Row) → sound_row n t x ≡ true → is_marker x ≡ false → (x.kind ≡ 1) × (sound_data x ≡ true)
row_data n t x e k =
    let s = row_parts n t x e in
    elim (either (is_data x)) [
      | inl a ↦ (eqb-true x.kind 1 a, rw a at s.rest)
      | inr a ↦ absurd (clash (is_marker x) (and_l _ _ (rw a at s.rest)) k)
    ]

-- One that is no data is a marker.
pub row_marker : (n t : ℕ) (x : Row) → sound_row n t x ≡ true → is_data x ≡ false → x.kind ≡ 2
row_marker n t x e d = eqb-true x.kind 2 (and_l _ _ (rw d at (row_parts n t x e).rest))

pub sound_key : (n t : ℕ) (x : Row) → sound_row n t x ≡ true → is_key x.key ≡ true
sound_key n t x e = (row_parts n t x e).key_fits

-- ## The dates and the length of a sound row

-- A sound date is an instant.
pub date_most : (m d : ℕ) → sound_retention m d ≡ true → d ≤ latest
date_most m d e =
    elim (either (eqb m 0)) [
      | inl z ↦ omega (arith, eqb-true d 0 (rw z at e))
      | inr z ↦
          let f : (is_mode m && (leb 1 d && leb d latest)) ≡ true = rw z at e in
          leb-true d latest (and_r (leb 1 d) _ (and_r (is_mode m) _ f))
    ]

-- A row that is no data has neither length, mode nor date.
pub record Bare (x : Row) : Type 0 where
  pub no_length : x.size ≡ 0
  pub no_mode : x.mode ≡ 0
  pub no_date : x.until ≡ 0

pub row_bare : (n t : ℕ) (x : Row) → sound_row n t x ≡ true → is_data x ≡ false → Bare x
row_bare n t x e d =
    let g = and_r (eqb x.body 0) _ (and_r (is_marker x) _ (rw d at (row_parts n t x e).rest)) in
    let f = and_r (eqb x.size 0) _ g in
    record { no_length = eqb-true x.size 0 (and_l _ _ g); no_mode = eqb-true x.mode 0 (and_l _ _ f); no_date = eqb-true x.until 0 (and_l _ _ (and_r (eqb x.mode 0) _ f)) }

pub row_date : (n t : ℕ) (x : Row) → sound_row n t x ≡ true → x.until ≤ latest
row_date n t x e =
    elim (either (is_data x)) [
      | inl d ↦
          let f = and_r (ltb x.body bodies) _ (rw d at (row_parts n t x e).rest) in
          date_most x.mode x.until (and_l _ _ (and_r (leb x.size largest_size) _ f))
      | inr d ↦ omega (arith, (row_bare n t x e d).no_date)
    ]

-- No row is longer than the largest length.
pub row_size : (n t : ℕ) (x : Row) → sound_row n t x ≡ true → x.size ≤ largest_size
row_size n t x e =
    elim (either (is_data x)) [
      | inl d ↦ leb-true x.size largest_size (and_l _ _ (and_r (ltb x.body bodies) _ (rw d at (row_parts n t x e).rest)))
      | inr d ↦ omega (arith, (row_bare n t x e d).no_length)
    ]

pub row_dated : (n t : ℕ) (x : Row) → t ≤ latest → sound_row n t x ≡ true → Dated x
row_dated n t x h e = record { created = omega (arith, (row_parts n t x e).by_now); until = row_date n t x e }

-- ## Rows that a line adds or changes

pub marker_sound : (made n m : ℕ) (k : List ℕ) → 1 ≤ m → m < n → is_key k ≡ true → sound_row n made (marker made m k) ≡ true
marker_sound made n m k l u g =
    row_whole n made (marker made m k) (record { from_one = l; below = u; by_now = omega arith; key_fits = g; rest = refl })

-- A data row with other data of its own.
changed_sound : (n t : ℕ) (x y : Row) → sound_row n t x ≡ true → x.kind ≡ 1 → y.kind ≡ 1 → y.number ≡ x.number → y.created ≡ x.created → y.key ≡ x.key → sound_data y ≡ true → sound_row n t y ≡ true
changed_sound n t x y e k j p q r d =
    let s = row_parts n t x e in
    row_whole n t y (record { from_one = omega arith; below = omega arith; by_now = omega arith; key_fits = rw r s.key_fits; rest = rw j d })

pub retention_sound : (n t m d : ℕ) (x : Row) → sound_row n t x ≡ true → x.kind ≡ 1 → sound_retention m d ≡ true → sound_row n t (set_retention m d x) ≡ true
retention_sound n t m d x e k f =
    let r : sound_data x ≡ true = rw k at (row_parts n t x e).rest in
    let b : ltb x.body bodies ≡ true = and_l _ _ r in
    let s : leb x.size largest_size ≡ true = search (and_l, and_r) in
    let h : leb x.hold 1 ≡ true = search (and_l, and_r) in
    changed_sound n t x (set_retention m d x) e k k refl refl refl (search and_i depth 6)

pub hold_sound : (n t o : ℕ) (x : Row) → sound_row n t x ≡ true → x.kind ≡ 1 → leb o 1 ≡ true → sound_row n t (set_hold o x) ≡ true
hold_sound n t o x e k f =
    let r : sound_data x ≡ true = rw k at (row_parts n t x e).rest in
    let b : ltb x.body bodies ≡ true = and_l _ _ r in
    let s : leb x.size largest_size ≡ true = search (and_l, and_r) in
    let h : sound_retention x.mode x.until ≡ true = search (and_l, and_r) in
    changed_sound n t x (set_hold o x) e k k refl refl refl (search and_i depth 6)

-- ## The retention of a new row

pub mode_not_zero : (m : ℕ) → is_mode m ≡ true → eqb m 0 ≡ false
mode_not_zero m e =
    elim (or_one (eqb m governance) _ e) [
      | inl f ↦ ne_eqb m 0 (λ q. omega (arith, eqb-true m governance f))
      | inr f ↦ ne_eqb m 0 (λ q. omega (arith, eqb-true m compliance f))
    ]

-- A mode and a date from 1 to the last instant.
both_sound : (m d : ℕ) → is_mode m ≡ true → 1 ≤ d → leb d latest ≡ true → sound_retention m d ≡ true
both_sound m d e l u = rw (mode_not_zero m e) (and_i (is_mode m) _ e (and_i (leb 1 d) _ (le-leb 1 d l) u))

-- Mode and date as a line gives them: both, or neither.
pub given_sound : (now : ℕ) (m d : Option ℕ) → is_mode_field m ≡ true → is_date_field d ≡ true → one_of (is_some m) (is_some d) ≡ false → then_some d false (λ t. leb t now) ≡ false → sound_retention (or_zero m) (or_zero d) ≡ true
given_sound now None None e f h p = refl
given_sound now None (Some d) e f h p = absurd (true≢false h)
given_sound now (Some m) None e f h p = absurd (true≢false h)
given_sound now (Some m) (Some d) e f h p = both_sound m d e (omega (arith, leb-false d now p)) f

-- The default's.
default_sound : (s : Config) (now : ℕ) → sound_default s.default ≡ true → (has_default s.default && ltb latest (default_end s now)) ≡ false → sound_retention s.default.mode (pick (has_default s.default) (default_end s now) 0) ≡ true
unfolding default_end
default_sound s now d o =
    elim (either (eqb s.default.mode 0)) [
      | inl z ↦ simp z
      | inr z ↦
          let some_default : (is_mode s.default.mode && is_period s.default.count s.default.unit) ≡ true = rw z at d in
          let counted : 1 ≤ s.default.count = leb-true 1 s.default.count (and_l _ _ (and_r (is_mode s.default.mode) _ some_default)) in
          let end : 1 ≤ default_end s now = period_positive now s.default.count s.default.unit counted in
          let over : ltb latest (default_end s now) ≡ false = rw z at o in
          let fits : leb (default_end s now) latest ≡ true = le-leb (default_end s now) latest (ltb-false latest (default_end s now) over) in
          rw z (and_i (is_mode s.default.mode) _ (and_l _ _ some_default) (and_i (leb 1 (default_end s now)) _ (le-leb 1 (default_end s now) end) fits))
    ]

new_retention : (s : Config) (now : ℕ) (r : Retention) (o : Option ℕ) → r.mode ≡ o → sound_default s.default ≡ true → is_retention r ≡ true → retention_half r ≡ false → then_some r.date false (λ t. leb t now) ≡ false → default_too_late s now r ≡ false → sound_retention (new_mode s r) (new_until s now r) ≡ true
new_retention s now r None q d g h p o = rw q (default_sound s now d (rw q at o))
new_retention s now r (Some m) q d g h p o =
    let given : sound_retention (or_zero r.mode) (or_zero r.date) ≡ true = given_sound now r.mode r.date (and_l _ _ g) (and_r (is_mode_field r.mode) _ g) h p in
    rw q (rw q at given)

hold_fits : (o : Option Bool) → leb (new_hold o) 1 ≡ true
hold_fits None = refl
hold_fits (Some true) = refl
hold_fits (Some false) = refl

-- The row that a PUT or COPY adds.
pub new_sound : (s : Settings) (now : ℕ) (k : List ℕ) (body size : ℕ) (t : Terms) → 1 ≤ s.next → is_key k ≡ true → ltb body bodies ≡ true → leb size largest_size ≡ true → sound_default s.config.default ≡ true → is_retention t.retention ≡ true → retention_half t.retention ≡ false → then_some t.retention.date false (λ d. leb d now) ≡ false → default_too_late s.config now t.retention ≡ false → sound_row (s.next + 1) now (new_row s now k body size t) ≡ true
new_sound s now k body size t l g b z d r h p o =
    let f = new_retention s.config now t.retention t.retention.mode refl d r h p o in
    let j = hold_fits t.hold in
    row_whole (s.next + 1) now (new_row s now k body size t)
    (record { from_one = l; below = omega arith; by_now = omega arith; key_fits = g; rest = search and_i depth 6 })

-- ## The row that a line names is the only one of its key and number

pub version_refl : (x : Row) → same_version x x ≡ true
version_refl x = and_i (same x.key x.key) _ (same_refl x.key) (eq-eqb x.number x.number refl)

pub apart : (x y : Row) → ahead x y ≡ true → (same_version x y ≡ false) × (same_version y x ≡ false)
apart x y e = (go (same_version x y) refl, back (same_version y x) refl)
  where
    never : x.key ≡ y.key → x.number ≡ y.number → ⊥
    never k n =
        elim (or_one (before x.key y.key) _ e) [
          | inl b ↦ clash (before x.key x.key) (rw (sym k) at b) (before_irrefl x.key)
          | inr b ↦ omega (arith, ltb-true y.number x.number (and_r (same x.key y.key) _ b))
        ]

    go : (t : Bool) → same_version x y ≡ t → same_version x y ≡ false
    go true q = absurd (never (same_path x.key y.key (and_l _ _ q)) (eqb-true x.number y.number (and_r (same x.key y.key) _ q)))
    go false q = q

    back : (t : Bool) → same_version y x ≡ t → same_version y x ≡ false
    back true q = absurd (never (sym (same_path y.key x.key (and_l _ _ q))) (sym (eqb-true y.number x.number (and_r (same y.key x.key) _ q))))
    back false q = q

-- No row behind a row is of its key and number.
pub others : (x : Row) (ys : List Row) → all (ahead x) ys ≡ true → all (λ y. not (same_version x y)) ys ≡ true
others x = all_as (ahead x) (λ y. not (same_version x y)) (λ y d. rw (apart x y d).0)

-- In an ordered table no other row is.
pub others_before : (ys : List Row) (x : Row) (zs : List Row) → ordered (ys ++ x ∷ zs) ≡ true → all (λ y. not (same_version x y)) ys ≡ true
others_before [] x zs o = refl
others_before (y ∷ ys) x zs o =
    rw (apart y x (all_middle (ahead y) ys x zs (and_l _ _ o))).1 (others_before ys x zs (and_r (all (ahead y) (ys ++ x ∷ zs)) _ o))

pub others_behind : (ys : List Row) (x : Row) (zs : List Row) → ordered (ys ++ x ∷ zs) ≡ true → all (λ y. not (same_version x y)) zs ≡ true
others_behind [] x zs o = others x zs (and_l _ _ o)
others_behind (y ∷ ys) x zs o = others_behind ys x zs (and_r (all (ahead y) (ys ++ x ∷ zs)) _ o)

-- What holds of a row that is found holds of each row of its key and number.
all_named : (p q : Row → Bool) (xs : List Row) (x : Row) → ordered xs ≡ true → first p xs ≡ Some x → q x ≡ true → all (λ y. not (same_version x y) || q y) xs ≡ true
all_named p q [] x o f e = refl
all_named p q (y ∷ ys) x o f e =
    elim (either (p y)) [
      | inl t ↦
          let g : Some y ≡ Some x = rw t at f in
          let s : y ≡ x = cc in
          and_i (not (same_version x y) || q y) _ (or_r (not (same_version x y)) _ (rw s e))
          (all_as (ahead y) (λ z. not (same_version x z) || q z) (λ z d. or_l (not (same_version x z)) _ (rw (sym s) (rw (apart y z d).0))) ys (and_l _ _ o))
      | inr t ↦
          let g : first p ys ≡ Some x = rw t at f in
          let d : ahead y x ≡ true = all_first (ahead y) p ys x (and_l _ _ o) g in
          and_i (not (same_version x y) || q y) _ (or_l (not (same_version x y)) _ (rw (apart y x d).1))
          (all_named p q ys x (and_r (all (ahead y) ys) _ o) g e)
    ]

named_data : (x y : Row) → same_version x y ≡ true → (not (same_version x y) || is_data y) ≡ true → y.kind ≡ 1
named_data x y j e = eqb-true y.kind 1 (rw j at e)

-- A change of the row that a line names, which is data.
pub named_sound : (n t : ℕ) (m : Name) (f : Row → Row) → ((x : Row) → sound_row n t x ≡ true → x.kind ≡ 1 → sound_row n t (f x) ≡ true) → (xs : List Row) → ordered xs ≡ true → not (is_some (row_of xs m)) ≡ false → then_some (row_of xs m) false is_marker ≡ false → all (sound_row n t) xs ≡ true → all (sound_row n t) (change (is_named xs m) f xs) ≡ true
named_sound n t m f g xs o present no_marker s = go (row_of xs m) refl
  where
    go : (r : Option Row) → row_of xs m ≡ r → all (sound_row n t) (change (is_named xs m) f xs) ≡ true
    go None q = absurd (true≢false (rw q at present))
    go (Some x) q =
        let k : is_data x ≡ true = eq-eqb x.kind 1 (row_data n t x (all_first (sound_row n t) _ xs x s q) (rw q at no_marker)).0 in
        let there = all_named _ is_data xs x o q k in
        all_change (λ y. sound_row n t y && (not (same_version x y) || is_data y)) (sound_row n t) (is_named xs m) f
        (λ y e j. g y (and_l _ _ e) (named_data x y (rw q at j) (and_r (sound_row n t y) _ e)))
        (λ y e. and_l _ _ e)
        xs (all_both (sound_row n t) (λ y. not (same_version x y) || is_data y) xs s there)
