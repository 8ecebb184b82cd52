use Rattle.log_lines.specs.GrowingLog.{ended_lines}
use Rattle.log_lines.proofs.streamed.StreamedLines.new.Goals as goal

pub returns-clause-stands : goal.returns-clause-stands
unfolding ended_lines
returns-clause-stands c = record { judge = c.new.ensures.stands; line = c.new-3.ensures }
