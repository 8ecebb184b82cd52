use Rattle.std.proofs.Common.{ℕ, subst}
use Rattle.plan_situations.specs.Paths.{HasReached}
use Rattle.planner.proofs.Extending.{reached_prefix}
use Rattle.planner.proofs.legs.own_at_leg.Goals as goal

pub returns : goal.returns
returns c =
    let s = c.args.situation.now in
    let W = c.first_plan-plan.result in
    let own = c.own_after.result in
    reached_prefix s c.args.leg c.args.number W own c.requires.leg c.first_plan-plan.ensures.begins (subst (λ (n : ℕ). HasReached s W n own) c.leg_begins.ensures c.own_after.ensures)
