use Rattle.scenario.proofs.OneReading.{has_one_reading}
use Rattle.scenario.proofs.laws.one_reading.Goals as goal

pub returns : goal.returns
returns c = has_one_reading
