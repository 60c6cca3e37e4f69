-- `write_page` meets its contract.
use Rattle.listing.proofs.Writing.{page_cases}
use borrow.Author.Rules.{rules}
use Rattle.listing.proofs.write_page.Goals as goal

pub page_end-end-requires : goal.page_end-end-requires
page_end-end-requires c = search (rules, page_cases)

pub returns : goal.returns
returns c = search (rules, page_cases)
