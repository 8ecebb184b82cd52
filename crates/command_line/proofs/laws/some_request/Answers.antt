use Rattle.command_line.proofs.SomeRequest.{asked_or_not}
use Rattle.command_line.proofs.laws.some_request.Goals as goal

pub returns : goal.returns
returns c words = asked_or_not words
