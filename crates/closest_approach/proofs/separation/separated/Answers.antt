use Rattle.std.proofs.Common.{◌*◌}
use Rattle.closest_approach.proofs.Decision.{decides_separated}
use Rattle.closest_approach.proofs.Ends.{by_ends, from_ends}
use Rattle.closest_approach.proofs.separation.separated.Goals as goal

pub returns : goal.returns
returns c =
    let step = c.args.step.now in
    let r = c.args.r in
    let square = c.least_square.result in
    let exact = decides_separated step r (r * r * square.under) square.over c.is_at_least.result c.is_at_least.ensures
    (c.least_square.ensures.apart r) (c.least_square.ensures.nearer r) in
    record { exact = exact; ends = (λ yes. by_ends step r (exact.0 yes), λ apart. exact.1 (from_ends step r apart)) }
