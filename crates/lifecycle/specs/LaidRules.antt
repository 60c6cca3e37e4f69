-- Rules laid flat, so that keys are compared with their prefixes in place.
use Rattle.std.specs.Prelude.{List, map}
use Rattle.blocks.specs.Blocks.{key_in}
use Rattle.model.specs.Settings as model
use Rattle.lifecycle.specs.declared.laid.LaidRule.{LaidRule}

-- the rule that is laid so
abbrev pub rule_of : LaidRule → model.Rule
rule_of r = record { prefix = key_in r.prefix; current_days = r.current; noncurrent_days = r.noncurrent }

abbrev pub rules_in : List LaidRule → List model.Rule
rules_in rules = map rule_of rules
