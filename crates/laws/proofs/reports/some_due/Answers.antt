use Rattle.laws.proofs.OneDue.{some_due}
use Rattle.laws.proofs.reports.some_due.Goals as goal

pub returns : goal.returns
returns c = some_due c.some_request.ensures
