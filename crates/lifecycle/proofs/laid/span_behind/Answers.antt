-- `span_behind` meets its contract.
use Rattle.lifecycle.proofs.Bounding.{span_cases}
use borrow.Author.Rules.{rules}
use Rattle.lifecycle.proofs.laid.span_behind.Goals as goal

pub loop-preserved : goal.loop-preserved
loop-preserved c = search (rules, span_cases)
