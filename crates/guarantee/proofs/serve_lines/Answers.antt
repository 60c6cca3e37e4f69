-- `serve_lines` meets its contract.
use Rattle.guarantee.proofs.Lines.{serving}
use borrow.Author.Rules.{rules}
use Rattle.guarantee.proofs.serve_lines.Goals as goal
use Rattle.guarantee.proofs.serve_lines.Goals.{in-Ok, in-Err}

pub loop-i-preserved : goal.loop-i-preserved
loop-i-preserved c =
    elim c.match-serve.branch [
      | in-Ok w ↦ rw w.after-is (search (rules, serving, w.in-Ok.is))
      | in-Err w ↦ rw w.after-is (search (rules, serving, w.in-Err.is))
    ]
