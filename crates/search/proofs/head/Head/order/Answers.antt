-- `order` meets its contract.
use borrow.Author.Rules.{rules}
use Rattle.search.proofs.Heads.{head_same, head_less, head_more}
use Rattle.search.proofs.head.Head.order.Goals as goal

pub returns-in-Less : goal.returns-in-Less
returns-in-Less c =
    head_less _ _ _ _ _ c.args.self.now.is_head _ _ c.rank_at-x.ensures c.rank_at-y.ensures c.type_inv.block _ _ _ c.cmp.ensures c.cmp-2.ensures c.then.ensures c.in-Less.is

pub compare_rest-requires : goal.compare_rest-requires
compare_rest-requires c =
    head_same _ _ _ _ _ c.args.self.now.is_head _ _ c.rank_at-x.ensures c.rank_at-y.ensures c.type_inv.block _ _ _ c.cmp.ensures c.cmp-2.ensures c.then.ensures _ c.key_in-in-Equal.ensures c.in-Equal.is (search rules) (search rules)

pub returns-in-Greater : goal.returns-in-Greater
returns-in-Greater c =
    head_more _ _ _ _ _ c.args.self.now.is_head _ _ c.rank_at-x.ensures c.rank_at-y.ensures c.type_inv.block _ _ _ c.cmp.ensures c.cmp-2.ensures c.then.ensures c.in-Greater.is (search rules)
