use Rattle.laws.proofs.SomeAlarms.{some_alarms}
use Rattle.laws.proofs.existence.some_alarms.Goals as goal

pub returns : goal.returns
returns c = some_alarms
