-- What a line leaves: the settings that are returned, the buffers and the answer buffer are those of an outcome.
use Rattle.std.specs.Prelude.{ℕ, ◌≡◌, List}
use Rattle.bucket.specs.Whole.{Lent}
use Rattle.outcome.specs.Outcome.{Outcome}

pub record Leaves (b : Lent) (answer : List ℕ) (o : Outcome) : Type 0 where
  pub bucket_is : b ≡ o.bucket
  pub answer_is : answer ≡ o.answer
