use Rattle.std.proofs.Common.{subst, arith}
use Rattle.plan_situations.specs.FailingPlans.{Fails}
use Rattle.plan_situations.proofs.Blocks.{all_so_far, least_of}
use Rattle.plan_situations.proofs.flat.least_plan.Goals as goal

pub returns-then-not-branch : goal.returns-then-not-branch
returns-then-not-branch c =
    let plans = c.plans-number-end.ensures.value in
    let lt = c.loop-number-test.true in
    least_of c.args.situation.now c.requires.some_leg c.loop-number.number c.plan-plan.result (omega arith) c.plan-plan.ensures.value c.plan-plan.ensures.plan
    (λ h. let t = c.in_ok-fails.ensures.1 h in let f = c.if-not-branch.true in cc) c.loop-number.invariant

pub loop-number-preserved : goal.loop-number-preserved
loop-number-preserved c =
    all_so_far c.args.situation.now c.loop-number.number c.loop-number.invariant
    (subst (Fails c.args.situation.now) c.plan-plan.ensures.value (c.in_ok-fails.ensures.0 c.if-not-branch.false))
