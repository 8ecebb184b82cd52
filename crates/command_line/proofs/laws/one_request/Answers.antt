use Rattle.command_line.proofs.Asked.{one_asked}
use Rattle.command_line.proofs.laws.one_request.Goals as goal

pub returns : goal.returns
returns c words request other = one_asked words request other
