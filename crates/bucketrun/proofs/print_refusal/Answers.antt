-- What is printed of a refusal.
use Rattle.bucketrun.proofs.Printing.{prints_refusal}
use borrow.Author.Rules.{rules}
use Rattle.bucketrun.proofs.print_refusal.Goals as goal

pub returns : goal.returns
returns c = search (rules, prints_refusal)
