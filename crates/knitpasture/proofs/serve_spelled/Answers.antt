-- `serve_spelled` meets its contract: each way through it is one of the cited laws.
use mathlib.Core.Path.{◌≡◌}
use Rattle.std.proofs.Common.{arith, Err}
use Rattle.std.proofs.lemmas.Grind.{common_steps}
use Rattle.knitpasture.proofs.Serving.{spelled_cases, spelled_count}
use borrow.Author.Rules.{rules}
use Rattle.knitpasture.proofs.serve_spelled.Goals as goal

pub returns-in_err-comparisons-clause-answer_after : goal.returns-in_err-comparisons-clause-answer_after
returns-in_err-comparisons-clause-answer_after c = let q : c.from_residual.result ≡ Err c.in_err-comparisons.field-0.0 = grind (arith, common_steps) in rw q (search (rules, spelled_cases, c.in_err-comparisons.was))

pub returns-clause-answer_after : goal.returns-clause-answer_after
returns-clause-answer_after c = search (rules, spelled_cases, c.in_ok-comparisons.was)

pub returns-clause-comparisons_value : goal.returns-clause-comparisons_value
returns-clause-comparisons_value c = spelled_count _ _ _ _ _ _ _ c.read_numbers.ensures c.in_ok-comparisons.ensures.comparisons_value c.requires.0
