use Rattle.laws.proofs.SameVerdicts.{verdicts_of_windows}
use Rattle.laws.proofs.shares.verdicts_of_two_windows.Goals as goal

pub returns : goal.returns
returns c = verdicts_of_windows
