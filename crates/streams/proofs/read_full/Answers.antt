-- What a read brings is what the reader gave behind what had come.
use Rattle.std.proofs.Common.{rules}
use Rattle.streams.proofs.Filling.{filled}
use Rattle.streams.proofs.read_full.Goals as goal

pub loop-done-preserved : goal.loop-done-preserved
loop-done-preserved g c = (search rules, filled _ _ _ _ _ _ _ _ c.loop-done.invariant.0 c.in-Ok.ensures.within c.loop-done.invariant.1 c.in-Ok.ensures.reads.0)
