use Rattle.std.proofs.Common.{◌<◌, List, arith, length, get_or, ap, subst, ◌∙◌}
use Rattle.plan_situations.specs.FailingPlans.{FailsTowards}
use Rattle.plan_situations.specs.Situations.{end_of}
use Rattle.plan_situations.specs.declared.situation.Target.{Target}
use Rattle.plan_situations.proofs.FlatList.{none_some, none_so_far_of}
use Rattle.plan_situations.proofs.situation.Situation.fails.Goals as goal

pub loop-target-preserved : goal.loop-target-preserved
loop-target-preserved c =
    none_so_far_of (FailsTowards c.args.self.now c.args.plan.now (end_of c.args.self.now)) c.args.self.now.targets c.loop-target.target-index c.target-item.result
    (subst (λ (xs : List Target). c.loop-target.target-index < length xs) c.as_slice-target-items.ensures c.loop-target-test.true)
    (c.target-item.is ∙ ap (λ (xs : List Target). get_or xs c.loop-target.target-index c.target-item.result) c.as_slice-target-items.ensures)
    c.loop-target.invariant
    (λ h. let t = c.in_ok-fails_towards.ensures.1 h in let f = c.if-branch.false in cc)

pub returns : goal.returns
returns c = (
  λ t. cc,
  λ h. absurd (none_some (FailsTowards c.args.self.now c.args.plan.now (end_of c.args.self.now)) c.args.self.now.targets
      (λ k d lt. c.loop-target.invariant k d (omega (arith, ap length c.as_slice-target-items.ensures))) h),
)
