-- The least days decide: an action is due by some rule's days where it is by the least that the rules set.
use Rattle.std.proofs.Common.{◌≡◌, ℕ, ◌≤◌, Bool, true, false, not, ◌&&◌, ◌||◌, eqb, ltb, leb, List, [], ◌∷◌, ◌++◌, append-nil, sym, refl, ap, ◌∙◌, ap₂, inl, inr, arith, ltb-false, ltb-true, le-leb, leb-true}
use Rattle.std.proofs.lemmas.Bool.Decides.{nat_tests}
use Rattle.buffers.specs.Lists.{all, begins}
use Rattle.buffers.proofs.Choices.{pick_ways}
use Rattle.buffers.proofs.Tests.{either, clash, and_l, and_r}
use Rattle.buffers.proofs.Lists.{all_as, all_keep, keep_append}
use Rattle.calendar.specs.Periods.{day_start, expires_at}
use Rattle.calendar.proofs.Periods.{more_days, expired_today}
use Rattle.model.specs.Settings as model
use Rattle.model.specs.Settings.{is_set}
use Rattle.model.specs.Sweep.{applying, due}
use Rattle.lifecycle.specs.declared.Limits.{Limits}
use Rattle.lifecycle.specs.Least.{lesser, least, limits_of}
use Rattle.lifecycle.specs.Days.{over, few_days}

pub lesser_ways : (P : ℕ → Type 0) (a b : ℕ) → (eqb a 0 ≡ true → P b) → (eqb a 0 ≡ false → eqb b 0 ≡ true → P a)
    → (eqb a 0 ≡ false → eqb b 0 ≡ false → ltb a b ≡ true → P a) → (eqb a 0 ≡ false → eqb b 0 ≡ false → ltb a b ≡ false → P b) → P (lesser a b)
unfolding lesser
lesser_ways P a b x y z w = pick_ways P (eqb a 0) x (λ e. pick_ways P (eqb b 0) (y e) (λ f. pick_ways P (ltb a b) (z e f) (w e f)))

-- ## Days that are over

or_first : (a b : Bool) → (b ≡ true → a ≡ true) → a || b ≡ a
or_first true b h = refl
or_first false true h = sym (h refl)
or_first false false h = refl

or_second : (a b : Bool) → (a ≡ true → b ≡ true) → a || b ≡ b
or_second true b h = sym (h refl)
or_second false b h = refl

module _ (s t : ℕ) where
  over_none : (d : ℕ) → eqb d 0 ≡ true → over d s t ≡ false
  unfolding over
  over_none d e = rw e

  over_some : (d : ℕ) → not (eqb d 0) && leb (expires_at s d) t ≡ over d s t
  unfolding over
  over_some d = elim (either (eqb d 0)) [ inl e ↦ rw e | inr e ↦ rw e ]

  -- Fewer days are over no later.
  over_fewer : (a b : ℕ) → eqb a 0 ≡ false → a ≤ b → over b s t ≡ true → over a s t ≡ true
  unfolding over
  over_fewer a b h k e =
      let g : expires_at s b ≤ t = leb-true _ _ (and_r (not (eqb b 0)) _ (over_some b ∙ e)) in
      rw h (le-leb (expires_at s a) t (omega (arith, more_days s a b k)))

  over_lesser : (a b : ℕ) → over a s t || over b s t ≡ over (lesser a b) s t
  over_lesser a b =
      lesser_ways (λ d. over a s t || over b s t ≡ over d s t) a b
      (λ e. or_second (over a s t) _ (λ h. absurd (clash _ h (over_none a e))))
      (λ e f. or_first _ (over b s t) (λ h. absurd (clash _ h (over_none b f))))
      (λ e f g. or_first _ _ (over_fewer a b e (omega (arith, ltb-true a b g))))
      (λ e f g. or_second _ _ (over_fewer b a f (ltb-false a b g)))

  pub due_least : (days : model.Rule → ℕ) (us : List model.Rule) → due days us t s ≡ over (least days us) s t
  due_least days [] = sym (over_none 0 refl)
  due_least days (u ∷ us) = ap₂ (λ (a b : Bool). a || b) (over_some (days u)) (due_least days us) ∙ over_lesser (days u) (least days us)

-- Days that are over were over at the midnight at which the day began.
pub over_today : (d s t m : ℕ) → m ≡ day_start t → over d s m ≡ over d s t
unfolding over
over_today d s t m e = rw (e, expired_today s d t)

-- ## The least of days, in any order

lesser_swap : (a b c : ℕ) → lesser a (lesser b c) ≡ lesser b (lesser a c)
unfolding lesser
lesser_swap a b c = grind (arith, nat_tests)

least_last : (days : model.Rule → ℕ) (us : List model.Rule) (u : model.Rule) → least days (us ++ u ∷ []) ≡ lesser (days u) (least days us)
least_last days [] u = refl
least_last days (v ∷ us) u = ap (lesser (days v)) (least_last days us u) ∙ lesser_swap (days v) (days u) (least days us)

-- A rule sets as much behind others as in front of them.
pub limits_last : (us : List model.Rule) (u : model.Rule) (k : List ℕ) → limits_of (us ++ u ∷ []) k ≡ limits_of (u ∷ us) k
unfolding limits_of
limits_last us u k =
    elim (either (is_set u && begins u.prefix k)) [
      | inl e ↦ simp (keep_append, e, least_last)
      | inr e ↦ simp (keep_append, e, append-nil)
    ]

-- ## Few days

lesser_most : (a b m : ℕ) → a ≤ m → b ≤ m → lesser a b ≤ m
lesser_most a b m h k = lesser_ways (λ d. d ≤ m) a b (λ _. k) (λ _ _. h) (λ _ _ _. h) (λ _ _ _. k)

least_most : (days : model.Rule → ℕ) (m : ℕ) (us : List model.Rule) → all (λ u. leb (days u) m) us ≡ true → least days us ≤ m
least_most days m [] e = omega arith
least_most days m (u ∷ us) e =
    lesser_most (days u) (least days us) m (leb-true _ _ (and_l _ _ e)) (least_most days m us (and_r (leb (days u) m) _ e))

module _ (us : List model.Rule) (k : List ℕ) (l : Limits) (h : all few_days us ≡ true) (e : l ≡ limits_of us k) where
  pub current_most : l.current ≤ 36500
  unfolding limits_of
  current_most =
      rw e (least_most (λ u. u.current_days) 36500 (applying us k)
      (all_as few_days _ (λ u f. and_l _ _ f) (applying us k) (all_keep few_days _ us h)))

  pub noncurrent_most : l.noncurrent ≤ 36500
  unfolding limits_of
  noncurrent_most =
      rw e (least_most (λ u. u.noncurrent_days) 36500 (applying us k)
      (all_as few_days _ (λ u f. and_r (leb u.current_days 36500) _ f) (applying us k) (all_keep few_days _ us h)))
