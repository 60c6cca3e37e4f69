-- `is_word` meets its contract.
use Rattle.std.proofs.Common.{rules}
use Rattle.std.proofs.lemmas.Iterator.{same_from_all, YieldsList-from_zip, YieldsList-from_slice}
use borrow.Author.Tests.{tests}
use Rattle.text.proofs.Scans.{same_decides, same_length}
use Rattle.text.proofs.is_word.Goals as goal

pub returns-then-text-word : goal.returns-then-text-word
returns-then-text-word c =
    same_decides
    _
    _
    _
    (same_from_all
    c.all.new.self
    _
    _
    c.args.text.now
    c.args.word.now
    c.all.ensures.ran
    (YieldsList-from_zip (YieldsList-from_slice c.args.text.now cc) (YieldsList-from_slice c.args.word.now cc))
    c.if-text-word.true
    (λ x q k. search (rules, tests))
    (λ x q k. search (rules, tests)))

pub returns-else-text-word : goal.returns-else-text-word
returns-else-text-word c = search (rules, same_length)
