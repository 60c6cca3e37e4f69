-- `next_follows` meets its contract.
use Rattle.bucket.proofs.Following.{next_is}
use borrow.Author.Rules.{rules}
use Rattle.bucket.proofs.next_follows.Goals as goal

pub returns : goal.returns
returns c = search (rules, next_is)
