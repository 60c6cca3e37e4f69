-- `judge_put` meets its contract.
use Rattle.judge.proofs.Adding.{put_ways}
use borrow.Author.Rules.{rules}
use Rattle.judge.proofs.judge_put.Goals as goal

pub numbers_at-n-requires : goal.numbers_at-n-requires
numbers_at-n-requires c = search (rules, put_ways)

pub returns-then-is_repeated : goal.returns-then-is_repeated
returns-then-is_repeated c = λ who us fs. search (rules, put_ways)

pub returns-else-is_repeated : goal.returns-else-is_repeated
returns-else-is_repeated c = λ who us fs. search (rules, put_ways)

pub returns-in-Err : goal.returns-in-Err
returns-in-Err c = λ who us fs. search (rules, put_ways)
