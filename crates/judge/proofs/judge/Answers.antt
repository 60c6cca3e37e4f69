-- `judge` meets its contract.
use Rattle.judge.proofs.Dispatch.{action_ways}
use borrow.Author.Rules.{rules}
use Rattle.judge.proofs.judge.Goals as goal

pub judge_marker-requires-clause-valid_key : goal.judge_marker-requires-clause-valid_key
judge_marker-requires-clause-valid_key c = search (rules, action_ways)

pub returns-in-Put : goal.returns-in-Put
returns-in-Put c = search (rules, action_ways)

pub returns-in-Copy : goal.returns-in-Copy
returns-in-Copy c = search (rules, action_ways)

pub returns-in-Retain : goal.returns-in-Retain
returns-in-Retain c = search (rules, action_ways)

pub returns-in-SetHold : goal.returns-in-SetHold
returns-in-SetHold c = search (rules, action_ways)

pub returns-in-AddMarker : goal.returns-in-AddMarker
returns-in-AddMarker c = search (rules, action_ways)

pub returns-in-DeleteVersion : goal.returns-in-DeleteVersion
returns-in-DeleteVersion c = search (rules, action_ways)
