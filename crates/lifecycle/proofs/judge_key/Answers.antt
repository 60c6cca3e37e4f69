-- `judge_key` meets its contract.
use Rattle.lifecycle.proofs.Judging.{judged_key, key_cases}
use Rattle.std.proofs.Common.{refl}
use borrow.Author.Rules.{rules}
use Rattle.lifecycle.proofs.judge_key.Goals as goal

pub judge_versions-own-requires-clause-rows : goal.judge_versions-own-requires-clause-rows
judge_versions-own-requires-clause-rows g c = search (rules, key_cases)

pub judge_versions-own-requires-clause-dated : goal.judge_versions-own-requires-clause-dated
judge_versions-own-requires-clause-dated g c = search (rules, key_cases)

pub returns : goal.returns
returns g c = judged_key _ _ _ _ _ c.match_key-matched.ensures _ _ _ _ _ _ _ _ _ c.key_end-end.ensures c.requires.first c.args.today.begun refl c.judge_versions-own.ensures.fates_stored c.judge_versions-own.ensures.counted c.requires.counted
