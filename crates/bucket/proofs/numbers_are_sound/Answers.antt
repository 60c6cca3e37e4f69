-- `numbers_are_sound` meets its contract.
use Rattle.bucket.proofs.Steps.{with_same}
use Rattle.bucket.specs.Steps.{sound_numbers}
use Rattle.buffers.proofs.Choices.{picks}
use borrow.Author.Rules.{rules}
use Rattle.bucket.proofs.numbers_are_sound.Goals as goal

pub returns-then-kind-number : goal.returns-then-kind-number
unfolding sound_numbers
returns-then-kind-number c = search (rules, picks, with_same)

pub returns-then-kind-number-2 : goal.returns-then-kind-number-2
unfolding sound_numbers
returns-then-kind-number-2 c = search (rules, picks, with_same)

pub returns : goal.returns
unfolding sound_numbers
returns c = search (rules, picks, with_same)
