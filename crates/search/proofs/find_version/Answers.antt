-- `find_version` meets its contract.
use Rattle.search.proofs.Finding.{version_halved}
use Rattle.search.proofs.find_version.Goals as goal

pub returns : goal.returns
returns c = version_halved _ _ _ c.len.ensures.in_order _ (λ i r w. rw (← c.new-head.ensures) w) _ c.len.ensures.len _ c.halve.ensures
