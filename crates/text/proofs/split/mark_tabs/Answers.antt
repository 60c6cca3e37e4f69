-- `mark_tabs` meets its contract.
use Rattle.std.proofs.Common.{length}
use Rattle.text.proofs.Bits.{bits_padded}
use Rattle.text.proofs.split.mark_tabs.Goals as goal

pub mark_bits-requires-clause-bits_value : goal.mark_bits-requires-clause-bits_value
mark_bits-requires-clause-bits_value c = bits_padded c.args.line.now c.copy_from_slice.new.self (length c.args.line.now) c.byte_bits.result c.copy_from_slice.ensures.after c.byte_bits.ensures
