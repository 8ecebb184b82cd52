use Rattle.std.proofs.Common.{◌++◌}
use Rattle.log_lines.specs.GrowingLog.{ended_lines}
use Rattle.log_lines.specs.LogLines.{without_carriage_return}
use Rattle.laws.proofs.InertReports.{of_mode}
use Rattle.laws.proofs.OneLine.{is_among}
use Rattle.laws.proofs.inert.inert_lines.Goals as goal

pub returns : goal.returns
returns c = λ task scenario before part ending after text cause line inert report.
    of_mode scenario (((before ++ part) ++ ending) ++ after) (before ++ after) (ended_lines before) (without_carriage_return part) cause
    (is_among before part ending after line) inert task.mode task.why task.rows text report
