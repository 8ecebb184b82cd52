use Rattle.laws.proofs.AskedScenarios.{asked_scenario}
use Rattle.laws.proofs.ReadScenarios.{read_scenario}
use Rattle.laws.proofs.existence.each_scenario_is_in_range.Goals as goal

pub returns-clause-read : goal.returns-clause-read
returns-clause-read c = read_scenario

pub returns-clause-asked : goal.returns-clause-asked
returns-clause-asked c = asked_scenario
