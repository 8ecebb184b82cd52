use Rattle.settling.proofs.TakenTicks.{many_settled_stay}
use Rattle.settling.proofs.laws.many_settled_stay.Goals as goal

pub returns : goal.returns
returns c = many_settled_stay
