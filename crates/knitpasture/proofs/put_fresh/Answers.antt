-- `put_fresh` meets its contract.
use mathlib.Core.Path.{◌≡◌}
use lib.ListN.{length, replicate}
use Rattle.std.proofs.Common.{arith}
use Rattle.std.proofs.lemmas.Grind.{common_steps}
use Rattle.knitpasture.proofs.Serving.{fresh_put}
use Rattle.knitpasture.proofs.put_fresh.Goals as goal

pub returns : goal.returns
returns c =
    let z : c.fill.new.self ≡ replicate (length c.args.settings.now) 0 = grind (arith, common_steps) in
    fresh_put _ _ _ _ _ c.requires z c.fresh.ensures c.from.ensures c.put_state.ensures
