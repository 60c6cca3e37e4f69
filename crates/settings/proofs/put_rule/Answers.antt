-- `put_rule` meets its contract.
use Rattle.settings.proofs.Encoding.{rule_written}
use borrow.Author.Rules.{rules}
use Rattle.settings.proofs.put_rule.Goals as goal

pub returns : goal.returns
returns c = search (rules, rule_written)
