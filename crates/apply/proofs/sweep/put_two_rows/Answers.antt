-- `put_two_rows` meets its contract: two pieces are one.
use Rattle.apply.proofs.Writing.{put_twice}
use borrow.Author.Rules.{rules}
use Rattle.apply.proofs.sweep.put_two_rows.Goals as goal

pub returns : goal.returns
returns c = search (rules, put_twice)
