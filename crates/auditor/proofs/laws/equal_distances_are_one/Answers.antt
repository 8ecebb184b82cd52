use Rattle.auditor.proofs.EqualDistances.{equal_distances}
use Rattle.auditor.proofs.laws.equal_distances_are_one.Goals as goal

pub returns : goal.returns
returns c = λ terms ranks steps trace metres i rows. equal_distances terms steps trace metres i ranks rows
