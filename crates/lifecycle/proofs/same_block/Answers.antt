-- `same_block` meets its contract.
use Rattle.blocks.proofs.Blocks.{block_long}
use Rattle.lifecycle.proofs.Words.{word_cases, word_again}
use borrow.Author.Rules.{rules}
use Rattle.lifecycle.proofs.same_block.Goals as goal

pub bounds-a-0 : goal.bounds-a-0
bounds-a-0 c = search (rules, block_long, word_cases)

pub loop-i-init : goal.loop-i-init
loop-i-init c = search (rules, block_long, word_cases)

pub returns-then-word_at : goal.returns-then-word_at
returns-then-word_at c = search (rules, block_long, word_cases)

pub loop-i-preserved : goal.loop-i-preserved
loop-i-preserved c = word_again _ _ _ _ (search) (search) (cc)

pub returns : goal.returns
returns c = search (rules, block_long, word_cases)
