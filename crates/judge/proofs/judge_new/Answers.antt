-- `judge_new` meets its contract.
use mathlib.Core.Path.{◌≡◌}
use Rattle.std.proofs.Common.{arith, Err}
use Rattle.std.proofs.lemmas.Grind.{common_steps}
use Rattle.model.specs.Effects.{new_hold}
use Rattle.judge.proofs.Adding.{new_ways, put_late, put_refused}
use borrow.Author.Rules.{rules}
use Rattle.judge.proofs.judge_new.Goals as goal

pub returns-in_err-lock : goal.returns-in_err-lock
returns-in_err-lock c = λ n k l placed who us fs. let q : c.from_residual.result ≡ Err c.in_err-lock.field-0.0 = grind (arith, common_steps) in rw q (put_late _ _ _ _ _ _ _ _ _ c.new_lock.result placed (search rules) who us fs c.in_err-lock.field-0.0 c.in_err-lock.was)

pub returns-in_err-find_room : goal.returns-in_err-find_room
returns-in_err-find_room c = λ n k l placed who us fs. let q : c.from_residual-in_err-find_room.result ≡ Err c.in_err-find_room.field-0.0 = grind (arith, common_steps) in rw q (put_refused _ _ _ _ _ _ _ _ _ c.new_lock.result placed (search rules) who us fs c.in_ok-lock.lock c.in_ok-lock.was c.find_room.result c.find_room.ensures c.in_err-find_room.field-0.0 c.in_err-find_room.was)

pub returns : goal.returns
returns c = λ n k l placed who us fs. let h : c.from.result ≡ new_hold c.args.terms.hold = grind (arith, common_steps) in search (rules, new_ways, h, c.in_ok-lock.was, c.in_ok-find_room.was)
