use Rattle.laws.proofs.SomeAnswer.{some_met}
use Rattle.laws.proofs.reports.some_answer.Goals as goal

pub returns : goal.returns
returns c = some_met
