-- `put_rules` meets its contract: the rules before `k` are written.
use Rattle.settings.proofs.Encoding.{rules_put}
use borrow.Author.Rules.{rules}
use Rattle.settings.proofs.put_rules.Goals as goal

pub loop-k-preserved : goal.loop-k-preserved
loop-k-preserved c = search (rules, rules_put)

pub returns : goal.returns
returns c = search (rules, rules_put)
