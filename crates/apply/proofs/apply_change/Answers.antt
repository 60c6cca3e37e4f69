-- `apply_change` meets its contract: each change is one of the cited laws.
use Rattle.apply.proofs.Applying.{applying}
use Rattle.apply.proofs.Sweeping.{sweeping}
use borrow.Author.Rules.{rules}
use Rattle.apply.proofs.apply_change.Goals as goal

pub insert_row-requires : goal.insert_row-requires
insert_row-requires g c = search (rules, applying, sweeping)

pub rewrite_row-requires : goal.rewrite_row-requires
rewrite_row-requires g c = search (rules, applying, sweeping)

pub remove_row-requires : goal.remove_row-requires
remove_row-requires g c = search (rules, applying, sweeping)

pub carry_out-requires : goal.carry_out-requires
carry_out-requires g c = search (rules, applying, sweeping)

pub overflow_sub-result-in-Sweep : goal.overflow_sub-result-in-Sweep
overflow_sub-result-in-Sweep g c = search (rules, applying, sweeping)

pub returns-in-Keep : goal.returns-in-Keep
returns-in-Keep g c = search (rules, applying, sweeping)

pub returns-in-Insert : goal.returns-in-Insert
returns-in-Insert g c = search (rules, applying, sweeping)

pub returns-in-Rewrite : goal.returns-in-Rewrite
returns-in-Rewrite g c = search (rules, applying, sweeping)

pub returns-in-Remove : goal.returns-in-Remove
returns-in-Remove g c = search (rules, applying, sweeping)

pub returns-in-Sweep : goal.returns-in-Sweep
returns-in-Sweep g c = search (rules, applying, sweeping)
