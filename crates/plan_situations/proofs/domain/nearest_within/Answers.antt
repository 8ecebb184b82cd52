use Rattle.std.proofs.Common.{◌<◌, ◌^◌, subst, sym}
use Rattle.closest_approach.specs.declared.nearest.Moment.{Moment}
use Rattle.plan_situations.proofs.Entries.{nearest_small}
use Rattle.plan_situations.proofs.domain.nearest_within.Goals as goal

pub returns-clause-small : goal.returns-clause-small
returns-clause-small c =
    subst (λ (m : Moment). m.b < 2 ^ 60) (sym c.in_ok-moment.ensures.moment)
    (nearest_small c.args.step.now c.change2-change2.result c.change2-change2.ensures.value c.change2-change2.ensures.small)
