-- `put_rules` meets its contract: the rules before `k` are written.
use Rattle.settings.specs.Bytes.{rules_of}
use lib.ListN.{length, take}
use mathlib.Core.Path.{◌≡◌}
use Rattle.settings.proofs.put_rules.Given as goal

abbrev pub invariant-loop-k : goal.invariant-loop-k
invariant-loop-k l = (length l.e ≡ 640) × (take l.k (rules_of l.e) ≡ take l.k l.rules)
