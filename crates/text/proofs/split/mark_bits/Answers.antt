-- `mark_bits` meets its contract.
use Rattle.std.proofs.Common.{rules}
use Rattle.text.proofs.Marks.{walk_end}
use Rattle.text.proofs.split.mark_bits.Goals as goal

pub returns : goal.returns
returns c = search (rules, walk_end)
