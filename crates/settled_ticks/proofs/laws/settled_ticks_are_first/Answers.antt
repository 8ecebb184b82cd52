use Rattle.settled_ticks.proofs.EarlierTicks.{settled_ticks_are_first}
use Rattle.settled_ticks.proofs.laws.settled_ticks_are_first.Goals as goal

pub returns : goal.returns
returns c = settled_ticks_are_first
