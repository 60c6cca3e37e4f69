-- Demands 1 and 2.
use Prim.Native.Nat.{ℕ}
use mathlib.Core.Path.{◌≡◌, refl, sym, ◌∙◌, ap}
use mathlib.Core.Logic.{inl, inr}
use mathlib.Core.Bool.{true, not}
use mathlib.Core.List.{List, [], ◌∷◌, ◌++◌}
use lib.Dec.{eqb}
use borrow.Author.Tests.{not-true, eqb-true, eqb-false}
use Rattle.buffers.specs.Lists.{all}
use Rattle.buffers.proofs.Tests.{either, and_l, and_r}
use Rattle.model.specs.Requests.{Heard, unreadable, says}
use Rattle.model.specs.Refusals.{Check, check, first_of, checks}
use Rattle.table.specs.Layout.{capacity}
use Rattle.bucket.specs.Whole.{Lent, bucket_of, whole}
use Rattle.outcome.specs.Calls.{Call, heard}
use Rattle.outcome.specs.Outcome.{refused, conditions, refusal_of, outcome}
use Rattle.outcome.proofs.Deciding.{numbered}
use Rattle.outcome.proofs.Demands.{refusal_range, refusal_first, refused_unchanged, unreadable_refused, accepted_request, outcome_number, outcome_refused}
use Rattle.guarantee.specs.Promise.{Hub, Accepted, Demand1, Demand2}

-- ## The first condition that holds

first_at : (before after : List Check) (n : ℕ) → all (λ x. not x.holds) before ≡ true → first_of (before ++ (record { number = n; holds = true } ∷ after)) ≡ n
first_at [] after n e = refl
first_at (x ∷ before) after n e =
    rw (not-true x.holds (and_l _ _ e)) (first_at before after n (and_r (not x.holds) _ e))

first_none : (xs : List Check) → all (λ x. not x.holds) xs ≡ true → first_of xs ≡ 0
first_none [] e = refl
first_none (x ∷ xs) e = rw (not-true x.holds (and_l _ _ e)) (first_none xs (and_r (not x.holds) _ e))

none_first : (xs : List Check) → numbered xs ≡ true → first_of xs ≡ 0 → all (λ x. not x.holds) xs ≡ true
none_first [] p e = refl
none_first (x ∷ xs) p e =
    elim (either x.holds) [
      | inl t ↦ absurd (eqb-false x.number 0 (not-true _ (and_l _ _ p)) (rw t at e))
      | inr t ↦ rw t (none_first xs (and_r (not (eqb x.number 0)) _ p) (rw t at e))
    ]

module _ (b : Lent) (g : Call) where
  refusal_is : refusal_of b g ≡ first_of (conditions b g)
  unfolding refusal_of
  refusal_is = refl

  -- With refusal 0 no condition holds.
  none_holds : refusal_of b g ≡ 0 → all (λ x. not x.holds) (conditions b g) ≡ true
  none_holds z = none_first (conditions b g) (go (heard g)) (sym refusal_is ∙ z)
    where
      go : (h : Heard) → numbered (checks (whole b) (capacity b.keys) (bucket_of b) h) ≡ true
      go (unreadable room) = refl
      go (says q) = refl

  -- A call with refusal 0 says a request that is accepted.
  pub accepts : refusal_of b g ≡ 0 → Accepted outcome b g
  accepts z = go (heard g) refl
    where
      go : (h : Heard) → heard g ≡ h → Accepted outcome b g
      go (unreadable room) e = absurd (unreadable_refused b g room e z)
      go (says q) e = record { request = q; hears = e; does = accepted_request b g q e z }

  pub demand_1 : Demand1 outcome b g
  demand_1 = record { numbered = rw (outcome_number b g) (refusal_range b g); writes_nothing = outcome_refused b g }

  pub demand_2 : Demand2 outcome b g
  demand_2 =
      record {
        refused_first = λ n e z. refusal_first b g n (sym (outcome_number b g) ∙ e) z;
        first_refused = λ n h. outcome_number b g ∙ refusal_is ∙ ap first_of h.at ∙ first_at h.before h.after n h.none_before;
        accepts = λ e. accepts (refusal_is ∙ first_none (conditions b g) e);
      }

-- ## No other hub meets them

-- A hub that meets demands 1 and 2 on a call returns and leaves what the engine does.
pub only_hub : (hub : Hub) (b : Lent) (g : Call) → Demand1 hub b g → Demand2 hub b g → hub b g ≡ outcome b g
only_hub hub b g d e =
    elim (either (eqb (refusal_of b g) 0)) [
      | inl t ↦
          let z = eqb-true (refusal_of b g) 0 t in
          let a = e.accepts (none_holds b g z) in
          a.does ∙ sym (accepted_request b g a.request a.hears z)
      | inr t ↦
          let z = eqb-false (refusal_of b g) 0 t in
          let n : (hub b g).number ≡ refusal_of b g = e.first_refused (refusal_of b g) (refusal_first b g (refusal_of b g) refl z) in
          d.writes_nothing (λ q. z (sym n ∙ q)) ∙ ap (λ (k : ℕ). refused k b g.answer) n ∙ sym (refused_unchanged b g z)
    ]
