-- `is_prefix_block` meets its contract.
use Rattle.blocks.proofs.Places.{places_cases}
use borrow.Author.Rules.{rules}
use Rattle.blocks.proofs.is_prefix_block.Goals as goal

pub returns-then-b-lt32 : goal.returns-then-b-lt32
returns-then-b-lt32 c = search (rules, places_cases)

pub returns-then-b-lt64 : goal.returns-then-b-lt64
returns-then-b-lt64 c = search (rules, places_cases)

pub returns-else-b-lt64 : goal.returns-else-b-lt64
returns-else-b-lt64 c = search (rules, places_cases)
