-- `put_block` meets its contract.
use Rattle.blocks.proofs.Blocks.{block_written}
use borrow.Author.Rules.{rules}
use Rattle.blocks.proofs.put_block.Goals as goal

pub returns : goal.returns
returns c = search (rules, block_written)
