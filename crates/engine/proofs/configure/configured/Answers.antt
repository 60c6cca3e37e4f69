-- `configured` meets its contract.
use mathlib.Core.Path.{◌≡◌}
use Rattle.std.proofs.Common.{arith}
use Rattle.std.proofs.lemmas.Grind.{common_steps}
use Rattle.std.specs.Option.{option_map}
use Rattle.buffers.specs.Choices.{then_some, or_zero}
use Rattle.model.specs.Kinds.{mode_number}
use Rattle.fields.specs.Meaning.{period_means}
use Rattle.engine.proofs.Configuring.{sets}
use borrow.Author.Rules.{rules}
use Rattle.engine.proofs.configure.configured.Goals as goal

pub set_rule-requires : goal.set_rule-requires
set_rule-requires c = search (rules, sets)

pub returns-in-Default : goal.returns-in-Default
returns-in-Default c =
    let mode : c.map_or.result ≡ or_zero (option_map mode_number c.in-Default.mode) = grind (arith, common_steps) in
    let count : c.map_or-in-Default.result ≡ then_some (option_map period_means c.in-Default.period) 0 (λ q. q.count) = grind (arith, common_steps) in
    let unit : c.map_or-in-Default-2.result ≡ then_some (option_map period_means c.in-Default.period) 0 (λ q. q.unit) = grind (arith, common_steps) in
    search (rules, sets)

pub returns-in-Rule : goal.returns-in-Rule
returns-in-Rule c = search (rules, sets)
