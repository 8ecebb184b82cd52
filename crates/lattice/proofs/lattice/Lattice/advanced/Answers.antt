use Rattle.std.proofs.Common.{arith, subst, sym}
use Rattle.lattice.specs.UnderWays.{HasAdvanced}
use Rattle.lattice.proofs.Advancing.{begun, one_more, from_before, farther}
use Rattle.lattice.proofs.lattice.Lattice.advanced.Goals as goal

pub loop-step-init : goal.loop-step-init
loop-step-init c =
    let vessel = c.passage-passage.ensures.vessel in
    record {
      advanced = subst (HasAdvanced c.args.self.now c.args.plan.now c.args.tick c.args.start 0) (sym vessel) (begun c.args.self.now c.args.plan.now c.args.tick c.args.start);
      passage = c.passage-passage.ensures.passage;
      moved = λ before e. absurd (omega arith);
      near_x = rw vessel (omega arith);
      near_y = rw vessel (omega arith);
    }

pub loop-step-preserved : goal.loop-step-preserved
loop-step-preserved c = record {
  advanced = one_more c.args.self.now c.args.plan.now c.args.tick c.loop-step.step c.args.start c.loop-step.passage.vessel c.stepped-passage.result.vessel
      c.loop-step.invariant.advanced c.stepped-passage.ensures.direction c.stepped-passage.ensures.speed c.stepped-passage.ensures.point;
  passage = c.stepped-passage.ensures.passage;
  moved = λ before e. from_before c.args.self.now c.args.plan.now c.args.tick c.loop-step.step before c.args.start c.loop-step.passage.vessel c.stepped-passage.result.vessel
      c.loop-step.invariant.advanced e c.stepped-passage.ensures.moved;
  near_x = farther _ _ _ c.loop-step.step _ c.loop-step.invariant.near_x c.stepped-passage.ensures.near_x;
  near_y = farther _ _ _ c.loop-step.step _ c.loop-step.invariant.near_y c.stepped-passage.ensures.near_y;
}
