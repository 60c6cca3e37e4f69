-- `judge_marker` meets its contract.
use mathlib.Core.Path.{◌≡◌}
use Rattle.std.proofs.Common.{arith, Err}
use Rattle.std.proofs.lemmas.Grind.{common_steps}
use Rattle.judge.proofs.Adding.{marker_ways}
use borrow.Author.Rules.{rules}
use Rattle.judge.proofs.judge_marker.Goals as goal

pub returns-in_err-find_room : goal.returns-in_err-find_room
returns-in_err-find_room c = λ y who us fs. let q : c.from_residual.result ≡ Err c.in_err-find_room.field-0.0 = grind (arith, common_steps) in rw q (search (rules, marker_ways, c.in_err-find_room.was))

pub returns : goal.returns
returns c = λ y who us fs. search (rules, marker_ways, c.in_ok-find_room.was)
