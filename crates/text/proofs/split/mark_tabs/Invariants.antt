-- `mark_tabs` meets its contract.
use Rattle.std.proofs.Common.{◌*◌}
use Rattle.text.specs.Fields.{Marking}
use Rattle.text.proofs.split.mark_tabs.Given as goal

abbrev pub invariant-loop-block : goal.invariant-loop-block
invariant-loop-block l = Marking l.line (l.block * 16) l.tabs l.ends
