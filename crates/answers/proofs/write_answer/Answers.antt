-- `write_answer` meets its contract.
use Rattle.answers.proofs.Writing.{no_field, all_fields}
use borrow.Author.Rules.{rules}
use Rattle.answers.proofs.write_answer.Goals as goal

pub returns-in-Done : goal.returns-in-Done
returns-in-Done c = rw c.in-Done.is (search (rules, no_field))

pub returns-in-Made : goal.returns-in-Made
returns-in-Made c = rw c.in-Made.is (search (rules, all_fields))

pub returns-in-Marked : goal.returns-in-Marked
returns-in-Marked c = rw c.in-Marked.is (search (rules, all_fields))

pub returns-in-Removed : goal.returns-in-Removed
returns-in-Removed c = rw c.in-Removed.is (search (rules, all_fields))

pub returns-in-RemovedMarker : goal.returns-in-RemovedMarker
returns-in-RemovedMarker c = rw c.in-RemovedMarker.is (search (rules, all_fields))

pub returns-in-Swept : goal.returns-in-Swept
returns-in-Swept c = rw c.in-Swept.is (search (rules, all_fields))

pub returns-in-Got : goal.returns-in-Got
returns-in-Got c = rw c.in-Got.is (search (rules, all_fields))
