use Rattle.laws.proofs.SameVessels.{rows_of_two}
use Rattle.laws.proofs.shares.rows_of_two_vessels.Goals as goal

pub returns : goal.returns
returns c = rows_of_two
