-- `same_key` meets its contract.
use Rattle.lifecycle.proofs.KeyRows.{same_cases}
use borrow.Author.Rules.{rules}
use Rattle.lifecycle.proofs.same_key.Goals as goal

pub overflow_mul-own : goal.overflow_mul-own
overflow_mul-own c = search (rules, same_cases)

pub overflow_mul-its : goal.overflow_mul-its
overflow_mul-its c = search (rules, same_cases)

pub overflow_add-own : goal.overflow_add-own
overflow_add-own c = search (rules, same_cases)

pub overflow_add-its : goal.overflow_add-its
overflow_add-its c = search (rules, same_cases)

pub slice_bounds-same_block-end : goal.slice_bounds-same_block-end
slice_bounds-same_block-end c = search (rules, same_cases)

pub slice_bounds-same_block-end-2 : goal.slice_bounds-same_block-end-2
slice_bounds-same_block-end-2 c = search (rules, same_cases)

pub same_block-requires : goal.same_block-requires
same_block-requires c = search (rules, same_cases)

pub returns : goal.returns
returns c = search (rules, same_cases)
