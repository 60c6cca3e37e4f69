-- `bytes_are_zero` meets its contract.
use Rattle.bucket.proofs.Steps.{zeros_cases}
use borrow.Author.Rules.{rules}
use Rattle.bucket.proofs.bytes_are_zero.Goals as goal

pub loop-i-preserved : goal.loop-i-preserved
loop-i-preserved c = search (rules, zeros_cases)
