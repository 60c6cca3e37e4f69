-- `write_rows` meets its contract.
use Rattle.listing.proofs.Writing.{Lines}
use Rattle.listing.proofs.write_rows.Given as goal

abbrev pub invariant-loop-i : goal.invariant-loop-i
invariant-loop-i l = Lines l.table.rows l.start l.end l.initial.answer l.place l.answer l.at l.i
