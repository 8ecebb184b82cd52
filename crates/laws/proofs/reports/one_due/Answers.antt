use Rattle.laws.proofs.OneDue.{one_due}
use Rattle.laws.proofs.reports.one_due.Goals as goal

pub returns : goal.returns
returns c = one_due c.one_answer.ensures
