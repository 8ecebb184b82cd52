use Rattle.lattice.proofs.AtOnce.{taken}
use Rattle.lattice.proofs.laws.orders_are_taken_at_once.Goals as goal

pub returns : goal.returns
returns c = taken c.args.lattice.now c.requires.turn_rate c.requires.speed_rate
