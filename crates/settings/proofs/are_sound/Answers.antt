-- `are_sound` meets its contract: the rules before `k` are sound.
use Rattle.settings.proofs.Checking.{rules_checked}
use borrow.Author.Rules.{rules}
use Rattle.settings.proofs.are_sound.Goals as goal

pub loop-k-preserved : goal.loop-k-preserved
loop-k-preserved c = search (rules, rules_checked)

pub returns-then-not-is_sound_rule : goal.returns-then-not-is_sound_rule
returns-then-not-is_sound_rule c = search (rules, rules_checked)

pub returns : goal.returns
returns c = search (rules, rules_checked)
