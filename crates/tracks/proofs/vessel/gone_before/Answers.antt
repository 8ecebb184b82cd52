use Rattle.std.proofs.Common.{◌∙◌, ap, sym, arith}
use Rattle.tracks.specs.JoinedReports.{legs_between}
use Rattle.tracks.proofs.Forgetting.{since_is}
use Rattle.tracks.proofs.Gone.{legs_step, no_leg_step, since_end, since_step, since_stop}
use Rattle.tracks.proofs.vessel.gone_before.Goals as goal
use Rattle.tracks.proofs.vessel.gone_before.Goals.{then-are_joined, else-are_joined}

pub loop-gone-preserved : goal.loop-gone-preserved
loop-gone-preserved c =
    let now = c.if-are_joined.gone in
    let before = c.loop-gone.invariant in
    let within = before.within in
    let few = before.few in
    let points = before.points ∙ since_step c.args.time c.loop-gone.gone.reports c.args.points.now _ c.loop-gone-test.true c.if-points-gone.true in
    elim c.if-are_joined.branch [
      | then-are_joined w ↦ (let is = legs_step c.args.gap c.loop-gone.gone.reports c.loop-gone.gone.legs c.args.points.now _ _ c.loop-gone-test.true (sym c.are_joined.ensures ∙ w.if-are_joined.true) before.legs in
          rw w.gone-is (record { within = omega (arith, c.loop-gone-test.true); few = omega arith; points = points; legs_within = is.within; legs = is.is }))
      | else-are_joined w ↦ (let is = no_leg_step c.args.gap c.loop-gone.gone.reports c.loop-gone.gone.legs c.args.points.now _ _ c.loop-gone-test.true (sym c.are_joined.ensures ∙ w.if-are_joined.false) before.legs in
          rw w.gone-is (record { within = omega (arith, c.loop-gone-test.true); few = omega arith; points = points; legs_within = before.legs_within; legs = is }))
    ]

pub returns-else-points-gone-clause-points : goal.returns-else-points-gone-clause-points
returns-else-points-gone-clause-points c =
    since_is c.args.time c.args.points.now c.requires ∙ c.loop-gone.invariant.points ∙ since_stop c.args.time c.loop-gone.gone.reports c.args.points.now _ c.loop-gone-test.true c.if-points-gone.false

pub returns-else-points-gone-clause-legs : goal.returns-else-points-gone-clause-legs
returns-else-points-gone-clause-legs c =
    ap (legs_between c.args.gap) (returns-else-points-gone-clause-points c) ∙ sym c.loop-gone.invariant.legs

pub returns-after-loop-gone-clause-points : goal.returns-after-loop-gone-clause-points
returns-after-loop-gone-clause-points c =
    since_is c.args.time c.args.points.now c.requires ∙ c.loop-gone.invariant.points ∙ since_end c.args.time c.loop-gone.gone.reports c.args.points.now (omega arith)

pub returns-after-loop-gone-clause-legs : goal.returns-after-loop-gone-clause-legs
returns-after-loop-gone-clause-legs c =
    ap (legs_between c.args.gap) (returns-after-loop-gone-clause-points c) ∙ sym c.loop-gone.invariant.legs
