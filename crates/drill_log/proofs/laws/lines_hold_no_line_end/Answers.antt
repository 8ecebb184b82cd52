use Rattle.drill_log.proofs.ReadAgain.{no_line_end}
use Rattle.drill_log.proofs.laws.lines_hold_no_line_end.Goals as goal

pub returns : goal.returns
returns c = no_line_end
