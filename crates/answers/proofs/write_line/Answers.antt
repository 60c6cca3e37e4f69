-- `write_line` meets its contract.
use Rattle.answers.proofs.Writing.{fields_room, line_wrote}
use borrow.Author.Rules.{rules}
use Rattle.answers.proofs.write_line.Goals as goal

pub returns : goal.returns
returns c = search (rules, fields_room, line_wrote)
