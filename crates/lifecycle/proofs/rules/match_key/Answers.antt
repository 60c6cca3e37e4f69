-- `match_key` meets its contract.
use Rattle.lifecycle.proofs.Matching.{match_cases}
use borrow.Author.Rules.{rules}
use Rattle.lifecycle.proofs.rules.match_key.Goals as goal

pub key_at-key-requires : goal.key_at-key-requires
key_at-key-requires c = search (rules, match_cases)

pub loop-rule-init : goal.loop-rule-init
loop-rule-init c = search (rules, match_cases)

pub compare-found-requires-clause-rank : goal.compare-found-requires-clause-rank
compare-found-requires-clause-rank c = search (rules, match_cases)

pub compare-found-requires-clause-comparisons_lt_most_comparisons : goal.compare-found-requires-clause-comparisons_lt_most_comparisons
compare-found-requires-clause-comparisons_lt_most_comparisons c = search (rules, match_cases)

pub loop-rule-preserved : goal.loop-rule-preserved
loop-rule-preserved c = search (rules, match_cases)

pub returns : goal.returns
returns c = search (rules, match_cases)
