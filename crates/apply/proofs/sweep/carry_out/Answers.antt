-- `carry_out` meets its contract: the second pass works on what the first leaves.
use Rattle.apply.proofs.Whole.{whole_cases}
use borrow.Author.Rules.{rules}
use Rattle.apply.proofs.sweep.carry_out.Goals as goal

pub insert_markers-requires : goal.insert_markers-requires
insert_markers-requires g c = search (rules, whole_cases)

pub returns : goal.returns
returns g c = search (rules, whole_cases)
