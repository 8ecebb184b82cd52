use Rattle.drill_log.proofs.ReadAgain.{read_again}
use Rattle.drill_log.proofs.laws.lines_are_read_again.Goals as goal

pub returns : goal.returns
returns c = read_again
