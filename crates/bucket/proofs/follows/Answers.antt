-- `follows` meets its contract.
use Rattle.bucket.proofs.Following.{follows_cases}
use borrow.Author.Rules.{rules}
use Rattle.bucket.proofs.follows.Goals as goal

pub returns-in-Less : goal.returns-in-Less
returns-in-Less c = search (rules, follows_cases)

pub returns-in-Equal : goal.returns-in-Equal
returns-in-Equal c = search (rules, follows_cases)

pub returns-in-Greater : goal.returns-in-Greater
returns-in-Greater c = search (rules, follows_cases)
