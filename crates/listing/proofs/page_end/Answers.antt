-- `page_end` meets its contract.
use Rattle.std.proofs.Common.{rules}
use Rattle.listing.proofs.Places.{ends_found}
use Rattle.listing.proofs.page_end.Goals as goal

pub returns-in-Ok : goal.returns-in-Ok
returns-in-Ok c = ends_found _ _ _ _ c.len.ensures.in_order c.requires.span _ (λ i r w. w) _ (search rules) _ c.binary_search_by.ensures _ c.in-Ok.is

pub returns-in-Ok-2 : goal.returns-in-Ok-2
returns-in-Ok-2 c = ends_found _ _ _ _ c.len.ensures.in_order c.requires.span _ (λ i r w. w) _ (search rules) _ c.binary_search_by.ensures _ c.in-Ok.is
