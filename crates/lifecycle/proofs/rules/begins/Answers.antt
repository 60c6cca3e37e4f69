-- `begins` meets its contract: each way through it is one of the cited laws.
use Rattle.lifecycle.proofs.Bounding.{begins_cases}
use borrow.Author.Rules.{rules}
use Rattle.lifecycle.proofs.rules.begins.Goals.{then-first-rule-via-then-first-rule, then-first-rule-via-else-first-rule+then-rule-first}
use Rattle.lifecycle.proofs.rules.begins.Goals as goal

pub returns-then-first-rule : goal.returns-then-first-rule
returns-then-first-rule c =
    elim c.then-first-rule.branch [
      | then-first-rule-via-then-first-rule w ↦ search (rules, begins_cases)
      | then-first-rule-via-else-first-rule+then-rule-first w ↦ search (rules, begins_cases)
    ]

pub key_in-prefix-requires : goal.key_in-prefix-requires
key_in-prefix-requires c = search (rules, begins_cases)

pub returns-then-end-le8 : goal.returns-then-end-le8
returns-then-end-le8 c = search (rules, begins_cases)

pub returns-then-key-end : goal.returns-then-key-end
returns-then-key-end c = search (rules, begins_cases)

pub returns-then-rank_at : goal.returns-then-rank_at
returns-then-rank_at c = search (rules, begins_cases)

pub returns-then-end-le16 : goal.returns-then-end-le16
returns-then-end-le16 c = search (rules, begins_cases)

pub returns : goal.returns
returns c = search (rules, begins_cases)
