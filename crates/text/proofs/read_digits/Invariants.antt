-- `read_digits` meets its contract.
use Rattle.text.proofs.Reading.{rest_of}
use Rattle.text.specs.Numbers.{digits_of}
use lib.ListN.{drop}
use mathlib.Core.Path.{◌≡◌}
use Rattle.text.proofs.read_digits.Given as goal

abbrev pub invariant-loop-b : goal.invariant-loop-b
invariant-loop-b l = digits_of l.most l.text ≡ rest_of l.most l.n (drop l.b-index l.text)
