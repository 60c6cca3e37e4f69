-- `match_key` meets its contract.
use Rattle.lifecycle.specs.LaidRules.{rules_in}
use Rattle.lifecycle.specs.Least.{KeyMatched}
use Rattle.std.proofs.Common.{take}
use Rattle.lifecycle.proofs.rules.match_key.Given as goal

abbrev pub invariant-loop-rule : goal.invariant-loop-rule
invariant-loop-rule l = KeyMatched (rules_in (take l.rule-index l.rules)) l.key l.comparisons l.found
