-- `lay_rules` meets its contract.
use Rattle.lifecycle.proofs.Laying.{Laying}
use Rattle.lifecycle.proofs.rules.lay_rules.Given as goal

abbrev pub invariant-loop-i : goal.invariant-loop-i
invariant-loop-i l = Laying l.entries l.rules l.n l.i
