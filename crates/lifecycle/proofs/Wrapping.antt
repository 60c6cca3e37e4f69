-- Days less one, wrapping round at 0, compare as the lesser of the days that stand for an action.
use Rattle.std.proofs.Common.{◌≡◌, ℕ, ◌+◌, ◌%◌, ◌^◌, ◌<◌, ◌≤◌, refl, arith, ltb-false, ltb-true, eqb-true}
use borrow.Author.Tests.{eqb-false}
use Rattle.lifecycle.specs.Least.{lesser}
use Rattle.lifecycle.proofs.Days.{lesser_ways}

module _ (a b x y : ℕ) (p : (x + 1) % 2 ^ 64 ≡ a) (q : (y + 1) % 2 ^ 64 ≡ b) (h : x < 2 ^ 64) (k : y < 2 ^ 64) where
  pub wrapped_less : x < y → a ≡ lesser a b
  wrapped_less l =
      lesser_ways (λ d. a ≡ d) a b (λ e. absurd (omega (arith, eqb-true a 0 e))) (λ _ _. refl) (λ _ _ _. refl)
      (λ e f g. absurd (omega (arith, eqb-false b 0 f, ltb-false a b g)))

  pub wrapped_most : y ≤ x → b ≡ lesser a b
  wrapped_most l =
      lesser_ways (λ d. b ≡ d) a b (λ _. refl) (λ e f. absurd (omega (arith, eqb-false a 0 e, eqb-true b 0 f)))
      (λ e f g. absurd (omega (arith, eqb-false a 0 e, ltb-true a b g))) (λ _ _ _. refl)

pub ruleset wrapped = (wrapped_less, wrapped_most)
