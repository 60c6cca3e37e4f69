-- Ranges of numbers, as contracts state them.
use Rattle.std.specs.Prelude.{ℕ, ◌≤◌, ◌≡◌}

-- a result that is v, and at most k
pub record Within (r v k : ℕ) : Type 0 where
  pub is : r ≡ v
  pub most : r ≤ k

-- a number from a to b
pub record Span (a n b : ℕ) : Type 0 where
  pub from : a ≤ n
  pub to : n ≤ b
