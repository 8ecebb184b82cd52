use Rattle.ranks.proofs.Noted.{past_stays}
use Rattle.ranks.proofs.laws.the_past_stays.Goals as goal

pub returns : goal.returns
returns c = λ noted note mmsi time lt. past_stays noted note mmsi time lt
