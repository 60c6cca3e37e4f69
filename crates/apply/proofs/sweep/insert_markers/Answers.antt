-- `insert_markers` meets its contract: each way through it is one of the cited laws.
use Rattle.apply.proofs.Marking.{mark_read, mark_cases}
use borrow.Author.Rules.{rules}
use Rattle.apply.proofs.sweep.insert_markers.Goals as goal

pub loop-k-init : goal.loop-k-init
loop-k-init g c = search (rules, mark_cases)

pub loop-k-preserved-in-Goes : goal.loop-k-preserved-in-Goes
loop-k-preserved-in-Goes g c = search (rules, mark_cases)

pub overflow_sub-i : goal.overflow_sub-i
overflow_sub-i g c = let e = mark_read _ _ _ _ _ _ _ _ _ _ _ _ _ _ _ c.loop-k.invariant.0 c.loop-k-test.true c.index-fates-j.is c.fate.ensures c.in-Stays.is in search (rules, mark_cases)

pub copy_row-requires : goal.copy_row-requires
copy_row-requires g c = let e = mark_read _ _ _ _ _ _ _ _ _ _ _ _ _ _ _ c.loop-k.invariant.0 c.loop-k-test.true c.index-fates-j.is c.fate.ensures c.in-Stays.is in search (rules, mark_cases)

pub loop-k-preserved-in-Stays : goal.loop-k-preserved-in-Stays
loop-k-preserved-in-Stays g c = search (rules, mark_cases)

pub overflow_sub-i-in-Gains : goal.overflow_sub-i-in-Gains
overflow_sub-i-in-Gains g c = let e = mark_read _ _ _ _ _ _ _ _ _ _ _ _ _ _ _ c.loop-k.invariant.0 c.loop-k-test.true c.index-fates-j.is c.fate.ensures c.in-Gains.is in search (rules, mark_cases)

pub copy_row_with_marker-requires : goal.copy_row_with_marker-requires
copy_row_with_marker-requires g c = let e = mark_read _ _ _ _ _ _ _ _ _ _ _ _ _ _ _ c.loop-k.invariant.0 c.loop-k-test.true c.index-fates-j.is c.fate.ensures c.in-Gains.is in search (rules, mark_cases)

pub loop-k-preserved : goal.loop-k-preserved
loop-k-preserved g c = search (rules, mark_cases)

pub returns : goal.returns
returns g c = search (rules, mark_cases)
