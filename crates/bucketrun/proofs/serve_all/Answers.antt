-- A part of a block is served and written.
use Rattle.bucketrun.proofs.Serving.{part_next, parts_stopped, parts_done}
use borrow.Author.Rules.{rules}
use Rattle.bucketrun.proofs.serve_all.Goals as goal

pub returns-in-Err : goal.returns-in-Err
returns-in-Err g c = search (rules, parts_stopped)

pub returns-then-at-le-ROOM : goal.returns-then-at-le-ROOM
returns-then-at-le-ROOM g c = search (rules, parts_done)

pub loop-error-preserved : goal.loop-error-preserved
loop-error-preserved g c = search (rules, part_next)
