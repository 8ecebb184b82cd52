use Rattle.laws.proofs.SeenAlike.{seen_alike}
use Rattle.laws.proofs.shares.windows_see_alike.Goals as goal

pub returns : goal.returns
returns c = λ scenario log start ticks behind more mmsi none alike. seen_alike scenario log start ticks behind more none mmsi alike
