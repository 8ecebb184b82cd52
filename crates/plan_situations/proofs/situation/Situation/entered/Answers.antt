use Rattle.plan_situations.specs.FailingPlans.{EntersAt}
use Rattle.plan_situations.specs.Situations.{now_of}
use Rattle.plan_situations.proofs.FlatList.{none_from}
use Rattle.plan_situations.proofs.situation.Situation.entered.Goals as goal

pub loop-step-preserved : goal.loop-step-preserved
loop-step-preserved c =
    none_from (EntersAt c.args.self.now c.args.plan.now c.args.target.now) (now_of c.args.self.now) c.loop-step.step c.loop-step.invariant c.in_default.ensures
