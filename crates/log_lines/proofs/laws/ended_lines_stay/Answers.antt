use Rattle.log_lines.proofs.Parts.{all_begin, ended_stay}
use Rattle.log_lines.proofs.laws.ended_lines_stay.Goals as goal

pub returns-clause-ended : goal.returns-clause-ended
returns-clause-ended c = ended_stay

pub returns-clause-all : goal.returns-clause-all
returns-clause-all c = all_begin
