-- The rows of lines: one row per accepted report.
use Rattle.std.specs.Prelude.{ℕ, flat_map, List, []}
use Rattle.report_csv.specs.CsvRows.{row_of, Fields}
use Rattle.audit_report.specs.ReportRows.{point_fields}
use Rattle.log_lines.specs.declared.judged.Judged.{Judged}
use Rattle.log_lines.specs.declared.judged.Judged.TheVariants as judged
use Rattle.tracks.specs.declared.accepted.Accepted.{Accepted}

abbrev pub accepted_fields : Accepted → Fields
accepted_fields a = point_fields a.report.mmsi a.time a.point a.report.sog a.report.cog

-- the rows of a line: the row of its accepted report, if it has one
abbrev pub rows_of_line : Judged → List ℕ
rows_of_line (judged.Accepted report) = row_of (accepted_fields report)
rows_of_line (judged.Without outcome) = []

abbrev pub point_rows : List Judged → List ℕ
point_rows lines = flat_map rows_of_line lines
