-- `no_rule` meets its contract.
use Rattle.std.proofs.Common.{refl}
use Rattle.blocks.specs.Blocks.{block_of, is_block}
use Rattle.lifecycle.proofs.rules.no_rule.Goals as goal

pub new-requires : goal.new-requires
unfolding block_of is_block
new-requires c = refl
