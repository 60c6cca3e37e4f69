-- `serve_words` meets its contract.
use mathlib.Core.Path.{◌≡◌}
use Rattle.std.proofs.Common.{arith, Err}
use Rattle.std.proofs.lemmas.Grind.{common_steps}
use Rattle.knitpasture.proofs.Serving.{words_cases, words_count}
use borrow.Author.Rules.{rules}
use Rattle.knitpasture.proofs.serve_words.Goals as goal

pub returns-then-settings-ne-SETTINGS_BYTES-clause-answer_after : goal.returns-then-settings-ne-SETTINGS_BYTES-clause-answer_after
returns-then-settings-ne-SETTINGS_BYTES-clause-answer_after c = search (rules, words_cases)

pub returns-in_err-counted-clause-answer_after : goal.returns-in_err-counted-clause-answer_after
returns-in_err-counted-clause-answer_after c = let q : c.from_residual.result ≡ Err c.in_err-counted.field-0.0 = grind (arith, common_steps) in rw q (search (rules, words_cases, c.in_err-counted.was))

pub returns-clause-answer_after : goal.returns-clause-answer_after
returns-clause-answer_after c = search (rules, words_cases, c.in_ok-counted.was)

pub returns-clause-comparisons_value : goal.returns-clause-comparisons_value
returns-clause-comparisons_value c = search (rules, words_count, c.in_ok-counted.was)
