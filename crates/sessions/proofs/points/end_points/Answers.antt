use Rattle.std.proofs.Common.{ap, ◌∙◌}
use Rattle.log_lines.specs.LogLines.{lines_of}
use Rattle.sessions.specs.declared.ending.Ending.{Ending}
use Rattle.sessions.proofs.points.end_points.Goals as goal

pub returns-clause-report : goal.returns-clause-report
returns-clause-report c = λ scenario log front has judged.
    ap (λ (e : Ending). e.bytes.items) c.without_search.ensures ∙ c.in_ok-into_bytes.ensures _ (c.in_ok-write_counts.ensures scenario (lines_of log) front judged has)
