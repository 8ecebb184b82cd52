use Rattle.std.proofs.Common.{arith, sym}
use Rattle.std.specs.Int.{w64}
use Rattle.std.proofs.lemmas.Int.{to_z-of_z}
use Rattle.fixed_geometry.specs.Bearing.{has_turned, quarter_angle}
use Rattle.fixed_geometry.proofs.FirstQuarter.{turned_at_zero, not_turned_later}
use Rattle.fixed_geometry.proofs.Greatest.{greatest_below-is}
use Rattle.fixed_geometry.proofs.bearings.quarter_angle.Goals as goal

pub loop-low-init : goal.loop-low-init
loop-low-init c =
    let n = to_z-of_z w64 c.args.n c.ranges.n in
    let e = to_z-of_z w64 c.args.e c.ranges.e in
    rw (n, e) (record {
      apart = omega arith;
      within = omega arith;
      reached = turned_at_zero c.args.n c.args.e c.requires.n_sign c.requires.e_sign;
      beyond = λ j le lt. absurd (omega arith);
    })

pub loop-low-preserved : goal.loop-low-preserved
loop-low-preserved c =
    let n = to_z-of_z w64 c.args.n c.ranges.n in
    let e = to_z-of_z w64 c.args.e c.ranges.e in
    rw (n, e) (record {
      apart = omega arith;
      within = omega arith;
      reached = rw (n, e) at c.loop-low.invariant.reached;
      beyond = not_turned_later c.args.n c.args.e c.requires.n_sign c.requires.e_sign _ (sym (rw (n, e) at c.if-has_turned.ensures));
    })

pub returns-clause-value : goal.returns-clause-value
unfolding quarter_angle
returns-clause-value c =
    let n = to_z-of_z w64 c.args.n c.ranges.n in
    let e = to_z-of_z w64 c.args.e c.ranges.e in
    sym (greatest_below-is 900 (has_turned c.args.n c.args.e) c.loop-low.low (omega arith) (rw (n, e) at c.loop-low.invariant.reached)
    (λ j h lt. rw (n, e) at (c.loop-low.invariant.beyond j (omega arith) lt)))
