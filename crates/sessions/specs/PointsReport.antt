-- The report of `points`: a row for each accepted report, and then how many lines came to each outcome.
use Rattle.std.specs.Prelude.{ℕ, List, ◌++◌}
use Rattle.log_lines.specs.JudgedLines.{judged_lines}
use Rattle.log_lines.specs.LogLines.{lines_of}
use Rattle.audit_report.specs.OutcomeRows.{count_rows}
use Rattle.audit_report.specs.PointRows.{point_rows}
use Rattle.scenario_values.specs.declared.values.Scenario.{Scenario}

-- the report on a log
unfoldable pub points_report : Scenario → List ℕ → List ℕ
points_report scenario log = let lines = judged_lines scenario (lines_of log) in point_rows lines ++ count_rows lines
