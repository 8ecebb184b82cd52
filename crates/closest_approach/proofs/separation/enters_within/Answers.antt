use Rattle.std.proofs.Common.{◌*◌}
use Rattle.closest_approach.proofs.Decision.{decides_entering}
use Rattle.closest_approach.proofs.separation.enters_within.Goals as goal

pub returns : goal.returns
returns c =
    let r = c.args.r in
    let square = c.least_square.result in
    decides_entering c.args.step.now r c.args.ticks (r * r * square.under) square.over c.is_at_least.result c.is_at_least.ensures
    (c.least_square.ensures.apart r) (c.least_square.ensures.nearer r)
