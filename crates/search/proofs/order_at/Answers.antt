-- `order_at` meets its contract.
use Rattle.search.proofs.Halving.{block_there}
use Rattle.search.proofs.order_at.Goals as goal

pub order-requires : goal.order-requires
order-requires c = block_there _ _ _ _ c.table.view_is c.table.invariant _ c.requires
