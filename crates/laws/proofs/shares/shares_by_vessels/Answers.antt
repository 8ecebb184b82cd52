use Rattle.laws.proofs.SameMessages.{by_vessels}
use Rattle.laws.proofs.shares.shares_by_vessels.Goals as goal

pub returns : goal.returns
returns c = by_vessels
