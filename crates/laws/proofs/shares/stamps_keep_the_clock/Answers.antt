use Rattle.laws.proofs.Stamps.{heard_by_stamps}
use Rattle.laws.proofs.shares.stamps_keep_the_clock.Goals as goal

pub returns : goal.returns
returns c = heard_by_stamps
