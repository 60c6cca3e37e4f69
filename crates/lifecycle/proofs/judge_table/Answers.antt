-- `judge_table` meets its contract.
use Rattle.lifecycle.proofs.Judging.{judged_laid, judged_on, laid_cases}
use borrow.Author.Rules.{rules}
use Rattle.lifecycle.proofs.judge_table.Goals as goal

pub returns-clause-judged_rows : goal.returns-clause-judged_rows
returns-clause-judged_rows g c = judged_on _ _ _ _ _ _ _ _ c.of.ensures (judged_laid _ _ c.lay_rules-n.ensures.laid _ _ _ _ _ _ _ c.judge_rows.ensures g.met.F.FateCell.back)

pub returns-clause-comparisons_value : goal.returns-clause-comparisons_value
returns-clause-comparisons_value g c = search (rules, laid_cases)

pub judge_rows-requires-clause-laid : goal.judge_rows-requires-clause-laid
judge_rows-requires-clause-laid g c = search (rules, laid_cases)
