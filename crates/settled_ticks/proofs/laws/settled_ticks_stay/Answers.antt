use Rattle.settled_ticks.proofs.EarlierTicks.{settled_ticks_stay}
use Rattle.settled_ticks.proofs.laws.settled_ticks_stay.Goals as goal

pub returns : goal.returns
returns c = settled_ticks_stay
