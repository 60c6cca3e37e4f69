-- `keys_are_sound` meets its contract.
use Rattle.bucket.proofs.Following.{keys_cases, followed_key}
use borrow.Author.Tests.{not-true, not-false}
use borrow.Author.Rules.{rules}
use Rattle.bucket.proofs.keys_are_sound.Goals as goal

pub returns-then-used-lt1 : goal.returns-then-used-lt1
returns-then-used-lt1 c = search (rules, keys_cases, not-true, not-false, followed_key)

pub returns-then-not-is_key_block : goal.returns-then-not-is_key_block
returns-then-not-is_key_block c = search (rules, keys_cases, not-true, not-false, followed_key)

pub loop-i-init : goal.loop-i-init
loop-i-init c = search (rules, keys_cases, not-true, not-false, followed_key)

pub returns-then-not-next_follows : goal.returns-then-not-next_follows
returns-then-not-next_follows c = search (rules, keys_cases, not-true, not-false, followed_key)

pub returns : goal.returns
returns c = search (rules, keys_cases, not-true, not-false, followed_key)
