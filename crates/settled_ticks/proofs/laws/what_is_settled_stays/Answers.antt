use Rattle.settled_ticks.proofs.SeenStays.{what_is_settled_stays}
use Rattle.settled_ticks.proofs.laws.what_is_settled_stays.Goals as goal

pub returns : goal.returns
returns c = what_is_settled_stays
