use Rattle.std.proofs.Common.{◌<◌, List, length, get_or, ap, subst, refl, ◌∙◌}
use Rattle.plan_situations.specs.Situations.{IsTarget}
use Rattle.plan_situations.specs.declared.situation.Target.{Target}
use Rattle.planner.proofs.Grown.{grow_item}
use Rattle.plan_rows.proofs.checked.are_targets.Goals as goal

pub loop-target-preserved : goal.loop-target-preserved
loop-target-preserved c =
    grow_item (IsTarget c.args.situation.now) c.args.situation.now.targets c.loop-target.target-index c.target-item.result
    (subst (λ (xs : List Target). c.loop-target.target-index < length xs) c.as_slice-target-items.ensures c.loop-target-test.true)
    (c.target-item.is ∙ ap (λ (xs : List Target). get_or xs c.loop-target.target-index c.target-item.result) c.as_slice-target-items.ensures)
    c.loop-target.invariant
    (c.if-not-is_target.ensures refl)
