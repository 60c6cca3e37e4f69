-- `write_numbers` meets its contract: each step is one of the cited laws.
use mathlib.Core.Path.{refl}
use Rattle.knitpasture.proofs.Numbers.{number_cases, write_step}
use borrow.Author.Rules.{rules}
use Rattle.knitpasture.proofs.write_numbers.Goals as goal

pub loop-i-init : goal.loop-i-init
loop-i-init c = search (rules, number_cases)

pub loop-i-preserved : goal.loop-i-preserved
loop-i-preserved c = write_step _ _ _ _ _ _ _ c.put_word.ensures refl (search rules) c.loop-i.invariant
