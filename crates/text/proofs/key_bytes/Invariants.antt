-- `key_bytes` meets its contract.
use Rattle.std.proofs.Common.{◌≡◌, ◌*◌, ◌≤◌, length, drop}
use Rattle.text.specs.Keys.{key_bytes}
use Rattle.text.proofs.key_bytes.Given as goal

abbrev pub invariant-loop-block : goal.invariant-loop-block
invariant-loop-block l = (l.block * 16 ≤ length l.text) × (key_bytes l.text ≡ key_bytes (drop (l.block * 16) l.text))
