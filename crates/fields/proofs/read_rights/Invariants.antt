-- `read_rights` meets its contract.
use Rattle.std.proofs.Common.{◌≡◌, Some, None, if◌then◌else◌, drop}
use Rattle.fields.specs.Fields.{letters_once, rights_in}
use Rattle.fields.proofs.Readers.{letters_from}
use Rattle.fields.proofs.read_rights.Given as goal

abbrev pub invariant-loop-letter : goal.invariant-loop-letter
invariant-loop-letter l = letters_from l.held (drop l.letter-index l.text) ≡ (if letters_once l.text then Some (rights_in l.text) else None)
