use Rattle.command_line.proofs.Asked.{asked_or_nothing}
use Rattle.command_line.proofs.laws.asked_or_refused.Goals as goal

pub returns : goal.returns
returns c words request = asked_or_nothing words request
