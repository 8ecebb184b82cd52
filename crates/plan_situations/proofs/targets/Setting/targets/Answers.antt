use Rattle.std.proofs.Common.{◌∙◌, ap, sym, subst}
use Rattle.std.specs.List.{All}
use Rattle.std.proofs.lemmas.List.Elements.{All-push}
use Rattle.lattice.specs.Grids.{positions_of}
use Rattle.plan_situations.specs.PlanSituations.{target_of}
use Rattle.plan_situations.specs.Inner.Facts.{IsTargetOver}
use Rattle.plan_situations.proofs.Vessels.{agree, differ, no_target_more, one_target_more}
use Rattle.plan_situations.proofs.targets.Setting.targets.Goals as goal
use Rattle.plan_situations.proofs.targets.Setting.targets.Goals.{then-vessel-self+in_ok-target+in_ok-push, else-vessel-self}

pub loop-vessel-preserved : goal.loop-vessel-preserved
loop-vessel-preserved c =
    let own = c.args.self.now.own.now in
    let window = c.args.self.now.window in
    let near = c.args.near.now in
    let k = c.loop-vessel.vessel-index in
    let so_far = c.loop-vessel.invariant in
    elim c.if-vessel-self.branch [
      | then-vessel-self+in_ok-target+in_ok-push w ↦ (
          let pushed = ap (λ v. v.items) w.targets-is ∙ w.in_ok-push.ensures.items in
          record {
            value = λ numbers messages stands.
                one_target_more (target_of numbers messages window own) own.mmsi near k _ c.loop-vessel.targets.items _ _ c.loop-vessel-test.true (differ _ own.mmsi w.if-vessel-self.true) pushed
                (so_far.value numbers messages stands) (w.in_ok-target.ensures.value numbers messages stands);
            over = subst (All (IsTargetOver window.ticks (positions_of own.lattice))) (sym pushed)
                (All-push (IsTargetOver window.ticks (positions_of own.lattice)) c.loop-vessel.targets.items _ so_far.over w.in_ok-target.ensures.over);
          })
      | else-vessel-self w ↦ (
          let same = ap (λ v. v.items) w.targets-is in
          record {
            value = λ numbers messages stands.
                no_target_more (target_of numbers messages window own) own.mmsi near k _ c.loop-vessel.targets.items _ c.loop-vessel-test.true (agree _ own.mmsi w.if-vessel-self.false) same
                (so_far.value numbers messages stands);
            over = subst (All (IsTargetOver window.ticks (positions_of own.lattice))) (sym same) so_far.over;
          })
    ]
