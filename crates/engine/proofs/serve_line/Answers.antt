-- `serve_line` meets its contract.
use Rattle.engine.proofs.Serving.{lines}
use borrow.Author.Rules.{rules}
use Rattle.engine.proofs.serve_line.Goals as goal

pub serve_setting-done-requires-clause-settable : goal.serve_setting-done-requires-clause-settable
serve_setting-done-requires-clause-settable c = search (rules, lines, c.in_ok-passed.was)
