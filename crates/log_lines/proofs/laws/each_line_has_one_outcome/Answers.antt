use Rattle.log_lines.proofs.OneOutcome.{one_outcome}
use Rattle.log_lines.proofs.laws.each_line_has_one_outcome.Goals as goal

pub returns : goal.returns
returns c = one_outcome
