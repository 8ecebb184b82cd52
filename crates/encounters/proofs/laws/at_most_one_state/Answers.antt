use Rattle.encounters.proofs.OneState.{one_state}
use Rattle.encounters.proofs.laws.at_most_one_state.Goals as goal

pub returns : goal.returns
returns c = λ detect steps i state other h k. one_state detect steps i state other h k
