-- The start of a line goes to the front.
use Rattle.bucketrun.proofs.Blocks.{kept_start}
use borrow.Author.Rules.{rules}
use Rattle.bucketrun.proofs.keep.Goals as goal

pub returns : goal.returns
returns c = search (rules, kept_start)
