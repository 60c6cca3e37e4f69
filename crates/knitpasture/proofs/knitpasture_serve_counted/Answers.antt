-- `knitpasture_serve_counted` meets its contract.
use Rattle.knitpasture.proofs.Serving.{count_kept, count_written}
use Rattle.knitpasture.proofs.knitpasture_serve_counted.Goals as goal

pub returns-in-Ok-clause-comparisons_after : goal.returns-in-Ok-clause-comparisons_after
returns-in-Ok-clause-comparisons_after c = count_written _ _ _ _ _ _ c.in-Ok.ensures.answer_after c.in-Ok.ensures.comparisons_value

pub returns-in-Err-clause-comparisons_after : goal.returns-in-Err-clause-comparisons_after
returns-in-Err-clause-comparisons_after c = count_kept _ _ _ _ _ _ c.in-Err.ensures.answer_after
