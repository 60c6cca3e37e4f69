-- `lesser` meets its contract.
use Rattle.lifecycle.proofs.Wrapping.{wrapped}
use borrow.Author.Rules.{rules}
use Rattle.lifecycle.proofs.rules.lesser.Goals as goal

pub returns-then-wrapping_sub_u64 : goal.returns-then-wrapping_sub_u64
returns-then-wrapping_sub_u64 c = search (rules, wrapped)

pub returns : goal.returns
returns c = search (rules, wrapped)
