-- `key_length` meets its contract.
use Rattle.knitpasture.proofs.Serving.{key_spelled}
use borrow.Author.Rules.{rules}
use Rattle.knitpasture.proofs.key_length.Goals as goal

pub returns : goal.returns
returns c = search (rules, key_spelled)
