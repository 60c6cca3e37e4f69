-- `is_whole` meets its contract.
use Rattle.bucket.proofs.Passing.{whole_cases}
use borrow.Author.Tests.{not-true, not-false}
use borrow.Author.Rules.{rules}
use Rattle.bucket.proofs.is_whole.Goals as goal

pub returns-then-rows-c : goal.returns-then-rows-c
returns-then-rows-c c = search (rules, whole_cases, not-true, not-false)

pub returns-then-keys-c : goal.returns-then-keys-c
returns-then-keys-c c = search (rules, whole_cases, not-true, not-false)

pub returns-then-c-lt1 : goal.returns-then-c-lt1
returns-then-c-lt1 c = search (rules, whole_cases, not-true, not-false)

pub returns-then-c-gt-MOST_ROWS : goal.returns-then-c-gt-MOST_ROWS
returns-then-c-gt-MOST_ROWS c = search (rules, whole_cases, not-true, not-false)

pub returns-then-c-used : goal.returns-then-c-used
returns-then-c-used c = search (rules, whole_cases, not-true, not-false)

pub returns-then-not-is_sound : goal.returns-then-not-is_sound
returns-then-not-is_sound c = search (rules, whole_cases, not-true, not-false)

pub returns : goal.returns
returns c = search (rules, whole_cases, not-true, not-false)
