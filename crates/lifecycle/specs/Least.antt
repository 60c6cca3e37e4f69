-- 01, SWEEP: the days that the rules set for a key's rows. The least that its rules set decide. And document 02, M-103: each comparison of a prefix with a key is counted.
use Rattle.std.specs.Prelude.{◌≡◌, ℕ, ◌+◌, List, [], ◌∷◌, length, ◌==◌, nat_lt}
use Rattle.buffers.specs.Choices.{pick}
use Rattle.buffers.specs.Lists.{begins}
use Rattle.model.specs.Settings.{Rule}
use Rattle.model.specs.Sweep.{applying}
use Rattle.lifecycle.specs.declared.Limits.{Limits}
use Rattle.lifecycle.specs.declared.Matched.{Matched}

-- the lesser of two numbers of days, of which 0 stand for no action
unfoldable pub lesser : ℕ → ℕ → ℕ
lesser a b = pick (a == 0) b (pick (b == 0) a (pick (nat_lt a b) a b))

-- the least days of the rules
abbrev pub least : (Rule → ℕ) → List Rule → ℕ
least days [] = 0
least days (u ∷ us) = lesser (days u) (least days us)

-- the least days of the rules whose prefix begins the key
unfoldable pub limits_of : List Rule → List ℕ → Limits
limits_of rules k =
    record { current = least (λ u. u.current_days) (applying rules k); noncurrent = least (λ u. u.noncurrent_days) (applying rules k) }

-- a rule's prefix compared with a key: one comparison more, and the rule's days where the prefix begins the key
unfoldable pub compared : Rule → List ℕ → Matched → Matched
compared u k m =
    record {
      limits = pick (begins u.prefix k) (record { current = lesser u.current_days m.limits.current; noncurrent = lesser u.noncurrent_days m.limits.noncurrent }) m.limits;
      comparisons = m.comparisons + 1;
    }

-- the most comparisons of a sweep: eight rules with the keys of 1024 rows
abbrev pub most_comparisons : ℕ
most_comparisons = 8192

-- ## Contracts

-- Each of the rules was compared with the key once.
pub record KeyMatched (us : List Rule) (k : List ℕ) (comparisons : ℕ) (m : Matched) : Type 0 where
  pub limits_are : m.limits ≡ limits_of us k
  pub counted : m.comparisons ≡ comparisons + length us
