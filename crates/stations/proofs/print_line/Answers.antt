-- The answer stands within its buffer.
use mathlib.Core.Path.{sym}
use lib.Seq.{length-take-le}
use Rattle.stations.proofs.Printing.{answer_fits}
use Rattle.stations.proofs.print_line.Goals as goal

pub slice_bounds-write_whole-end : goal.slice_bounds-write_whole-end
slice_bounds-write_whole-end g c = answer_fits _ _ _ _ _ _ _ _ c.serve.ensures c.in-Ok.is

pub slice_bounds-write_whole-end-in-Ok : goal.slice_bounds-write_whole-end-in-Ok
slice_bounds-write_whole-end-in-Ok g c = sym (length-take-le _ _ (answer_fits _ _ _ _ _ _ _ _ c.serve.ensures c.in-Ok.is))
