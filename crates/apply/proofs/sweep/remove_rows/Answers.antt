-- `remove_rows` meets its contract: each way through it is one of the cited laws.
use Rattle.apply.proofs.Removing.{remove_cases}
use borrow.Author.Rules.{rules}
use Rattle.apply.proofs.sweep.remove_rows.Goals.{then-ne, else-ne}
use Rattle.apply.proofs.sweep.remove_rows.Goals as goal

pub loop-at-init : goal.loop-at-init
loop-at-init g c = search (rules, remove_cases)

pub loop-at-preserved : goal.loop-at-preserved
loop-at-preserved g c =
    elim c.if-ne.branch [
      | then-ne w ↦ rw (w.rows-is, w.keys-is, w.left-is) (search (rules, remove_cases, w.copy_row.ensures, w.if-ne.true))
      | else-ne w ↦ rw (w.rows-is, w.keys-is, w.left-is) (search (rules, remove_cases, w.if-ne.false))
    ]

pub returns : goal.returns
returns g c = search (rules, remove_cases)
