use Rattle.encounters.proofs.OneState.{while_it_lasts}
use Rattle.encounters.proofs.laws.the_kind_stays.Goals as goal

pub returns : goal.returns
returns c = λ detect steps i n state later all h k. while_it_lasts detect steps i n state later all h k
