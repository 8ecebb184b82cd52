-- The rows with the number of lines of each outcome, which end each report on a log.
use Rattle.std.specs.Prelude.{ℕ, flat_map, List}
use Rattle.report_csv.specs.CsvRows.{row_of}
use Rattle.audit_report.specs.ReportRows.{count_fields}
use Rattle.log_lines.specs.JudgedLines.{count_of}
use Rattle.log_lines.specs.LineOutcomes.{all_outcomes}
use Rattle.log_lines.specs.declared.judged.Judged.{Judged}

abbrev pub count_rows : List Judged → List ℕ
count_rows lines = flat_map (λ outcome. row_of (count_fields outcome (count_of outcome lines))) all_outcomes
