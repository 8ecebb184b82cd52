use Rattle.log_lines.proofs.Parts.{ended_so_far, open_so_far}
use Rattle.log_lines.proofs.laws.a_part_goes_on.Goals as goal

pub returns-clause-ended : goal.returns-clause-ended
returns-clause-ended c = ended_so_far

pub returns-clause-open : goal.returns-clause-open
returns-clause-open c = open_so_far
