-- `copy_row` meets its contract: what is written is what was read.
use Rattle.apply.proofs.Writing.{put_cases, put_copied}
use borrow.Author.Rules.{rules}
use Rattle.apply.proofs.sweep.copy_row.Goals as goal

pub returns-then-from-to : goal.returns-then-from-to
returns-then-from-to c = search (rules, put_cases)

pub returns : goal.returns
returns c = put_copied _ _ _ _ _ _ c.copy_within.ensures.after c.copy_within-2.ensures.after c.requires.0
