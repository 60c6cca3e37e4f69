-- A block is read, served and written; at the input's end what was kept is a line.
use Rattle.bucketrun.proofs.Blocks.{run_over, run_next, run_stopped}
use borrow.Author.Rules.{rules}
use Rattle.bucketrun.proofs.run.Goals as goal

pub returns-in-Some : goal.returns-in-Some
returns-in-Some g c = search (rules, run_over)

pub returns-in-Err : goal.returns-in-Err
returns-in-Err g c = search (rules, run_stopped)

pub loop-preserved : goal.loop-preserved
loop-preserved g c = search (rules, run_next)

pub returns : goal.returns
returns g c = search (rules, run_stopped)
