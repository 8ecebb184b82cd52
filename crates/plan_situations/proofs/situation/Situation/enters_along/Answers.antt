use Rattle.std.proofs.Common.{ℕ, ◌+◌}
use Rattle.plan_situations.specs.FailingPlans.{EntersAt}
use Rattle.plan_situations.specs.Situations.{now_of}
use Rattle.plan_situations.proofs.FlatList.{none_so_far}
use Rattle.plan_situations.proofs.situation.Situation.enters_along.Goals as goal

pub loop-j-preserved : goal.loop-j-preserved
loop-j-preserved c = λ plan is.
    none_so_far (λ (i : ℕ). EntersAt c.args.self.now plan c.args.target.now (now_of c.args.self.now + c.args.first + i)) c.loop-j.j (c.loop-j.invariant plan is)
    (λ h. let t = (c.enters_on.ensures plan is).1 h in let f = c.if-enters_on.false in cc)
