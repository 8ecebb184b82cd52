use Rattle.std.proofs.Common.{◌+◌, ◌<◌, ◌^◌, arith, rules}
use Rattle.planner.proofs.legs.leg_lasts.Goals as goal

pub overflow_add-leg : goal.overflow_add-leg
overflow_add-leg c =
    let value = c.legs-legs.ensures.value in
    let few = c.legs-legs.ensures.few in
    let lt = c.requires in
    let small : c.args.leg + 1 < 2 ^ 8 = omega arith in
    search rules
