-- `rows_are_sound` meets its contract.
use Rattle.bucket.proofs.Steps.{below_cases}
use borrow.Author.Tests.{not-true, not-false}
use borrow.Author.Rules.{rules}
use Rattle.bucket.proofs.rows_are_sound.Goals as goal

pub returns-then-not-row_is_sound : goal.returns-then-not-row_is_sound
returns-then-not-row_is_sound c = search (rules, below_cases, not-true, not-false)
