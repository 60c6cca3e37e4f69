-- `with_row` meets its contract.
use borrow.Author.Rules.{rules}
use Rattle.listing.proofs.Totals.{data_more, marker_more}
use Rattle.listing.proofs.report.with_row.Goals as goal

pub returns-then-is_data : goal.returns-then-is_data
returns-then-is_data c = data_more _ _ _ _ c.is_data.ensures c.if-is_data.true _ c.is_locked-locked.ensures _ (search rules)

pub returns-else-is_data : goal.returns-else-is_data
returns-else-is_data c = marker_more _ _ _ _ c.is_data.ensures c.if-is_data.false c.requires.kind_value
