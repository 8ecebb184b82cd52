use Rattle.log_lines.proofs.streamed.judge_line.Goals as goal

pub returns-in-None-clause-stands : goal.returns-in-None-clause-stands
returns-in-None-clause-stands c = λ scenario before known few judge line. c.take_long.ensures.stands scenario before known (rw c.in-None.is at line) few judge
