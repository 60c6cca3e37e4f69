-- `thin` meets its contract.
use Rattle.apply.proofs.Whole.{none_goes}
use borrow.Author.Rules.{rules}
use Rattle.apply.proofs.sweep.thin.Goals as goal

pub returns-then-gone-eq0 : goal.returns-then-gone-eq0
returns-then-gone-eq0 g c = search (rules, none_goes)
