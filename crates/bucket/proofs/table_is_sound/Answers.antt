-- `table_is_sound` meets its contract.
use Rattle.bucket.specs.Steps.{sound_table}
use Rattle.buffers.proofs.Choices.{tests}
use borrow.Author.Tests.{not-true, not-false}
use borrow.Author.Rules.{rules}
use Rattle.bucket.proofs.table_is_sound.Goals as goal

pub returns-then-not-rows_are_sound : goal.returns-then-not-rows_are_sound
unfolding sound_table
returns-then-not-rows_are_sound c = search (rules, tests, not-true, not-false)

pub returns-then-not-keys_are_sound : goal.returns-then-not-keys_are_sound
unfolding sound_table
returns-then-not-keys_are_sound c = search (rules, tests, not-true, not-false)

pub returns-then-not-numbers_are_zero : goal.returns-then-not-numbers_are_zero
unfolding sound_table
returns-then-not-numbers_are_zero c = search (rules, tests, not-true, not-false)

pub returns : goal.returns
unfolding sound_table
returns c = search (rules, tests, not-true, not-false)
