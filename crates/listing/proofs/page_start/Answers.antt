-- `page_start` meets its contract.
use borrow.Author.Rules.{rules}
use Rattle.listing.proofs.Places.{start_within}
use Rattle.listing.proofs.page_start.Goals as goal

pub returns : goal.returns
returns c = search (rules, start_within)
