use Rattle.std.proofs.Common.{◌+◌, ◌*◌, ◌≡◌, [], refl, ap, ◌∙◌, arith}
use Rattle.std.proofs.lemmas.List.Elements.{All-nil, All-push, All-same}
use Rattle.drill_log.specs.DrillLog.{state_of}
use Rattle.drill_log.specs.Inner.VesselFigures.{IsVessel}
use Rattle.drill_log.proofs.Logs.{vessel_more}
use Rattle.drill_log.proofs.vessel.vessels.Goals as goal

pub loop-number-init : goal.loop-number-init
unfolding state_of
loop-number-init c = record {
  state = c.new-numbers.ensures;
  figures = c.in_ok-vessels.ensures.items;
  ranges = All-same IsVessel c.in_ok-vessels.vessels.items [] c.in_ok-vessels.ensures.items (All-nil IsVessel);
}

pub loop-number-preserved : goal.loop-number-preserved
loop-number-preserved c =
    let number = c.loop-number.number in
    let before = c.loop-number.vessels.items in
    let four : 4 * number + 4 ≡ 4 * (number + 1) = omega arith in
    record {
      state = c.draw.ensures.state c.args.seed (4 * number) c.loop-number.invariant.state ∙ ap (state_of c.args.seed) four;
      figures = vessel_more c.args.seed number before c.push.new.self.items c.draw.result c.loop-number.invariant.figures c.in_ok-push.ensures.items
          (c.draw.ensures.figures c.args.seed number c.loop-number.invariant.state refl);
      ranges = All-same IsVessel c.push.new.self.items _ c.in_ok-push.ensures.items (All-push IsVessel before c.draw.result c.loop-number.invariant.ranges c.draw.ensures.ranges);
    }
