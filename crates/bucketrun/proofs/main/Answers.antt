-- The run starts with a fresh bucket.
use Rattle.bucketrun.proofs.Blocks.{may_start}
use borrow.Author.Rules.{rules}
use Rattle.bucketrun.proofs.main.Goals as goal

pub run-end-requires : goal.run-end-requires
run-end-requires c = search (rules, may_start)
