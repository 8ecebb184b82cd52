use Rattle.laws.proofs.OneEnding.{one_ending}
use Rattle.laws.proofs.reports.one_ending.Goals as goal

pub returns : goal.returns
returns c = one_ending
