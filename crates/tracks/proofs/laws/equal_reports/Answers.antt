use Rattle.tracks.proofs.EqualReports.{equal, same_from_equal}
use Rattle.tracks.proofs.laws.equal_reports.Goals as goal

pub returns : goal.returns
returns c = λ a b. (equal a b, same_from_equal a b)
