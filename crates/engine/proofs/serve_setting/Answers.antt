-- `serve_setting` meets its contract.
use Rattle.engine.proofs.Serving.{set_done}
use borrow.Author.Rules.{rules}
use Rattle.engine.proofs.serve_setting.Goals as goal

pub returns : goal.returns
returns c = search (rules, set_done)
