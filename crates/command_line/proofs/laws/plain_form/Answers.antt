use Rattle.command_line.proofs.Asked.{plain_asked}
use Rattle.command_line.proofs.laws.plain_form.Goals as goal

pub returns : goal.returns
returns c words request = plain_asked words request
