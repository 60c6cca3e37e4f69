-- `place_after` meets its contract.
use Rattle.listing.proofs.Places.{after_cases, after_fits}
use borrow.Author.Rules.{rules}
use Rattle.listing.proofs.place_after.Goals as goal

pub returns-then-version-eq0 : goal.returns-then-version-eq0
returns-then-version-eq0 c = search (rules, after_cases, after_fits)

pub overflow_add-result : goal.overflow_add-result
overflow_add-result c = search (rules, after_cases, after_fits)

pub returns-in-Ok : goal.returns-in-Ok
returns-in-Ok c = search (rules, after_cases, after_fits)

pub returns-in-Err : goal.returns-in-Err
returns-in-Err c = search (rules, after_cases, after_fits)
