-- `search_end` meets its contract.
use Rattle.lifecycle.proofs.KeyRows.{end_cases}
use borrow.Author.Rules.{rules}
use Rattle.lifecycle.proofs.search_end.Goals as goal

pub loop-low-preserved-then-same_key : goal.loop-low-preserved-then-same_key
loop-low-preserved-then-same_key c = search (rules, end_cases)

pub loop-low-preserved : goal.loop-low-preserved
loop-low-preserved c = search (rules, end_cases)

pub returns : goal.returns
returns c = search (rules, end_cases)
