-- A rule by itself: its test, and what writing it leaves.
use Rattle.std.specs.Prelude.{ℕ, ◌+◌, ◌≡◌, Bool, true, ◌&&◌, List}
use Rattle.buffers.specs.Writes.{Wrote}
use Rattle.blocks.specs.Blocks.{is_block}
use Rattle.model.specs.Settings as model
use Rattle.settings.specs.declared.Rule.{Rule}
use Rattle.settings.specs.Meaning.{rule_means}
use Rattle.settings.specs.Bytes.{rule_bytes, rule_fits}

-- one rule by itself is sound
abbrev pub rule_sound : Rule → Bool
rule_sound u = is_block u.prefix && model.sound_rule (rule_means u)

-- A rule was written in its 80 bytes, which hold it.
pub record RulePut (out : List ℕ) (at : ℕ) (u : Rule) (exit : List ℕ) : Type 0 where
  pub fits : rule_fits u ≡ true
  pub wrote : Wrote out at (rule_bytes u) 80 exit (at + 80)
