-- `serve_page` meets its contract.
use Rattle.engine.proofs.Serving.{pages}
use borrow.Author.Rules.{rules}
use Rattle.engine.proofs.serve_page.Goals as goal

pub new-table-requires : goal.new-table-requires
new-table-requires c = search (rules, pages)

pub part-prefix-requires : goal.part-prefix-requires
part-prefix-requires c = search (rules, pages)

pub part-key-requires : goal.part-key-requires
part-key-requires c = search (rules, pages)

pub write_page-len-requires-clause-listable : goal.write_page-len-requires-clause-listable
write_page-len-requires-clause-listable c = search (rules, pages)

pub write_page-len-requires-clause-count_in_bounds : goal.write_page-len-requires-clause-count_in_bounds
write_page-len-requires-clause-count_in_bounds c = search (rules, pages)

pub returns : goal.returns
returns c = search (rules, pages)
