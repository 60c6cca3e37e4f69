-- `rules_of` meets its contract.
use Rattle.settings.proofs.Decoding.{made}
use Rattle.settings.specs.Bytes.{rules_at}
use borrow.Author.Rules.{rules}
use Rattle.settings.proofs.rules_of.Goals as goal

pub returns : goal.returns
unfolding rules_at
returns c = search (rules, made) depth 12
