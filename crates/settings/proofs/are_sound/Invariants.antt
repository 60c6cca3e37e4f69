-- `are_sound` meets its contract: the rules before `k` are sound.
use Rattle.buffers.specs.Lists.{all}
use Rattle.settings.specs.Bytes.{rules_of}
use Rattle.settings.specs.Changes.{rule_sound}
use lib.ListN.{drop}
use mathlib.Core.Path.{◌≡◌}
use Rattle.settings.proofs.are_sound.Given as goal

abbrev pub invariant-loop-k : goal.invariant-loop-k
invariant-loop-k l = all rule_sound (rules_of l.e) ≡ all rule_sound (drop l.k (rules_of l.e))
