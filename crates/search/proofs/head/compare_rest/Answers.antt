-- `compare_rest` meets its contract.
use borrow.Author.Rules.{rules}
use Rattle.search.proofs.Comparing.{words_end}
use Rattle.search.proofs.head.compare_rest.Goals as goal

pub returns : goal.returns
returns c =
    words_end _ _ _ _ c.loop-i.invariant _ _ (search rules) c.rank_at-x-2.ensures c.rank_at-y-2.ensures _ _ _ c.cmp-2.ensures c.cmp-3.ensures c.then.ensures
