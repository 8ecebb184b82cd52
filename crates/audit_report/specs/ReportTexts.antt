-- The model of a report's text: the text of the rows so far.
use Rattle.std.specs.Prelude.{ℕ, ◌≡◌, false, List, ◌++◌}
use Rattle.csv.specs.Writing.{default_writer, fields_written, has_written, writer_pending, writer_setup, writer_under}
use Rattle.audit_report.specs.declared.report_text.ReportText.{ReportText}

-- The text of the rows so far is this one, and the writer is at the start of a row.
pub record HasText (kept : ReportText) (text : List ℕ) : Type 0 where
  pub written : (writer_under kept.writer).items ++ writer_pending kept.writer ≡ text
  pub setup : writer_setup kept.writer ≡ default_writer
  pub at_row : fields_written kept.writer ≡ 0
  pub clean : has_written kept.writer ≡ false
