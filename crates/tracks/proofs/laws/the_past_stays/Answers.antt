use Rattle.tracks.proofs.Settled.{past_stays}
use Rattle.tracks.proofs.laws.the_past_stays.Goals as goal

pub returns : goal.returns
returns c = λ numbers sent one mmsi t lt. past_stays numbers sent one mmsi t lt
