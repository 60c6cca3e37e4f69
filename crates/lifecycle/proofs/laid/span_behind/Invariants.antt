-- `span_behind` meets its contract.
use Rattle.std.proofs.Common.{◌≡◌, ◌+◌, ◌-◌, ◌^◌}
use Rattle.lifecycle.proofs.laid.span_behind.Given as goal

abbrev pub invariant-loop : goal.invariant-loop
invariant-loop l = l.span + 1 ≡ 256 ^ (8 - l.counter)
