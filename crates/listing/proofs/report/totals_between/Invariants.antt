-- `totals_between` meets its contract.
use Rattle.listing.proofs.Totals.{Totalling}
use Rattle.listing.proofs.report.totals_between.Given as goal

abbrev pub invariant-loop-i : goal.invariant-loop-i
invariant-loop-i l = Totalling l.table.rows l.start l.end l.instant l.t l.i
