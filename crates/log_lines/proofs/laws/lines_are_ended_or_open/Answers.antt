use Rattle.log_lines.proofs.Parts.{lines_ended_or_open}
use Rattle.log_lines.proofs.laws.lines_are_ended_or_open.Goals as goal

pub returns : goal.returns
returns c = lines_ended_or_open
