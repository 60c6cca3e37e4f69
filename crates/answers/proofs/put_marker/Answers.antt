-- `put_marker` meets its contract.
use Rattle.answers.proofs.Writing.{marker_wrote}
use borrow.Author.Rules.{rules}
use Rattle.answers.proofs.put_marker.Goals as goal

pub returns : goal.returns
returns c = search (rules, marker_wrote)
