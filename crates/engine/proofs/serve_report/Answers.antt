-- `serve_report` meets its contract.
use Rattle.engine.proofs.Serving.{reports}
use borrow.Author.Rules.{rules}
use Rattle.engine.proofs.serve_report.Goals as goal

pub new-table-requires : goal.new-table-requires
new-table-requires c = search (rules, reports)

pub part-part-requires : goal.part-part-requires
part-part-requires c = search (rules, reports)

pub write_report-len-requires-clause-countable : goal.write_report-len-requires-clause-countable
write_report-len-requires-clause-countable c = search (rules, reports)

pub write_report-len-requires-clause-longest_answer_in_bounds : goal.write_report-len-requires-clause-longest_answer_in_bounds
write_report-len-requires-clause-longest_answer_in_bounds c = search (rules, reports)

pub returns : goal.returns
returns c = search (rules, reports)
