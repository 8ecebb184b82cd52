use Rattle.std.proofs.Common.{ap, sym, ◌∙◌}
use Rattle.lattice.specs.OwnMotion.{hastened, turned}
use Rattle.lattice.proofs.Steering.{turned-same, hastened-same}
use Rattle.lattice.proofs.lattice.Lattice.steered.Goals as goal

pub returns-then-speed-orders-clause-direction : goal.returns-then-speed-orders-clause-direction
returns-then-speed-orders-clause-direction c =
    let rate = c.args.self.now.turn_rate in
    let direction = c.args.passage.vessel.direction in
    sym (turned-same rate direction c.requires.on_her_way.below) ∙ ap (turned rate direction) c.if-direction-orders.true

pub returns-then-speed-orders-clause-speed : goal.returns-then-speed-orders-clause-speed
returns-then-speed-orders-clause-speed c =
    let rate = c.args.self.now.speed_rate in
    let speed = c.args.passage.vessel.speed in
    sym (hastened-same rate speed) ∙ ap (hastened rate speed) c.if-speed-orders.true
