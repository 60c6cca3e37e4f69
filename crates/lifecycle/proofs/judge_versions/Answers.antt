-- `judge_versions` meets its contract.
use Rattle.lifecycle.proofs.KeyRows.{version_cases, versions_counted}
use borrow.Author.Rules.{rules}
use Rattle.lifecycle.proofs.judge_versions.Goals as goal

pub returns-clause-fates_stored : goal.returns-clause-fates_stored
returns-clause-fates_stored g c = search (rules, version_cases)

pub returns-clause-counted : goal.returns-clause-counted
returns-clause-counted g c = versions_counted _ _ g.met.F.FateCell.back _ _ _ _ _ _ _ _ _ _ _ _ c.current_fate-fate.ensures (search rules) (search rules) c.eq.ensures c.from.ensures c.of.ensures c.judge_older-removed.ensures.counted
