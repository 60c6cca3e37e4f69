-- `serve_entries` meets its contract.
use Rattle.knitpasture.proofs.Serving.{entries_served}
use borrow.Author.Rules.{rules}
use Rattle.knitpasture.proofs.serve_entries.Goals as goal

pub returns : goal.returns
returns c = search (rules, entries_served)
