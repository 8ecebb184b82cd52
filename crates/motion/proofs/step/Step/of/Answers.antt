use Rattle.std.proofs.Common.{◌^◌}
use Rattle.motion.proofs.Displacements.{displacement_small, change_small}
use Rattle.motion.proofs.step.Step.of.Goals as goal

pub invariant_of-result : goal.invariant_of-result
invariant_of-result c =
    let p = displacement_small c.args.a0 c.args.b0 (2 ^ 33) c.requires.a0_small c.requires.b0_small in
    let w = change_small c.args.a0 c.args.b0 c.args.a1 c.args.b1 (2 ^ 25) c.requires.a_moves c.requires.b_moves in
    rw (c.displacement.ensures.value, c.displacement-p.ensures.value, c.displacement-later.ensures.value) (p, w)
