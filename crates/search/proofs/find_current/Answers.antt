-- `find_current` meets its contract.
use Rattle.search.proofs.Finding.{current_halved}
use Rattle.search.proofs.find_current.Goals as goal

pub returns : goal.returns
returns c = current_halved _ _ c.len.ensures.in_order _ (λ i r w. rw (← c.new-head.ensures) w) _ c.len.ensures.len _ c.binary_search_by.ensures
