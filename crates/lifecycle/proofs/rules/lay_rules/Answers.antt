-- `lay_rules` meets its contract.
use Rattle.lifecycle.proofs.Laying.{lay_yes, lay_cases}
use borrow.Author.Rules.{rules}
use Rattle.lifecycle.proofs.rules.lay_rules.Goals.{then-is_set, else-is_set}
use Rattle.lifecycle.proofs.rules.lay_rules.Goals as goal

pub new-requires : goal.new-requires
new-requires c = let whole = rw c.unwrap-prefix.ensures at c.try_into.ensures.1 in search (rules, lay_cases)

pub loop-i-preserved : goal.loop-i-preserved
loop-i-preserved c =
    elim c.if-is_set.branch [
      | then-is_set w ↦ rw (w.rules-is, w.n-is) (let whole = rw w.unwrap-prefix.ensures at w.try_into.ensures.1 in
          lay_yes _ _ c.loop-i-test.true _ _ _ _ c.loop-i.invariant _ c.is_set.ensures c.word_at-current.ensures c.word_at-noncurrent.ensures _ w.if-is_set.true (rw w.new.ensures.0 whole) w.new.ensures.1 w.new.ensures.2)
      | else-is_set w ↦ rw (w.rules-is, w.n-is) (search (rules, lay_cases, w.if-is_set.false))
    ]

pub returns-clause-laid : goal.returns-clause-laid
returns-clause-laid c = search (rules, lay_cases)
