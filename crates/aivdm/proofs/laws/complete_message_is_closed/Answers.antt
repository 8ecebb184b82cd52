use Rattle.aivdm.proofs.Standing.{closed}
use Rattle.aivdm.proofs.laws.complete_message_is_closed.Goals as goal

pub returns : goal.returns
returns c = closed
