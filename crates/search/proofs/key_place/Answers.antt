-- `key_place` meets its contract.
use borrow.Author.Rules.{rules}
use Rattle.search.proofs.Named.{place_cases}
use Rattle.search.proofs.key_place.Goals as goal

pub returns-in-Ok : goal.returns-in-Ok
returns-in-Ok c = search (rules, place_cases)

pub returns-in-Ok-2 : goal.returns-in-Ok-2
returns-in-Ok-2 c = search (rules, place_cases)
