-- `key_end` meets its contract.
use Rattle.lifecycle.proofs.KeyRows.{first_cases, second_other, end_last}
use Rattle.std.proofs.Common.{arith}
use borrow.Author.Rules.{rules}
use Rattle.lifecycle.proofs.key_end.Goals.{else-next-used-via-then-next-used+else-same_key, else-next-used-via-else-next-used}
use Rattle.lifecycle.proofs.key_end.Goals as goal

pub later_end-requires : goal.later_end-requires
later_end-requires c = search (rules, first_cases)

pub returns-else-next-used : goal.returns-else-next-used
returns-else-next-used c =
    elim c.else-next-used.branch [
      | else-next-used-via-then-next-used+else-same_key w ↦ second_other _ c.len-used.ensures.in_order _ c.requires.there (omega arith) _ w.same_key.ensures w.if-same_key.false
      | else-next-used-via-else-next-used w ↦ end_last _ c.len-used.ensures.in_order _ c.requires.there (omega arith)
    ]
