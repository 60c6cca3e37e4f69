-- `print_number` meets its contract.
use Rattle.std.proofs.Common.{ap, ◌+◌}
use Rattle.text.proofs.Printing.{digits_wrote}
use Rattle.text.proofs.print_number.Goals as goal

pub returns : goal.returns
returns c =
    let w = c.write_digits.ensures in
    digits_wrote c.args.out.now c.args.at c.args.n _ c.write_digits.result c.write_digits.new.buf c.ranges.n.fits (ap (λ d. c.args.at + d) c.count_digits.ensures.is) (rw (← c.count_digits.ensures.is) c.count_digits.ensures.few) c.write_digits.auto.buf w.start w.written w.before
