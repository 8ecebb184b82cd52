use Rattle.std.proofs.Common.{ℕ, List, ◌++◌, OnOk, refl, subst}
use Rattle.report_csv.specs.CsvRows.{row_of}
use Rattle.audit_report.specs.ReportTexts.{HasText}
use Rattle.audit_report.proofs.RowFields.{seven}
use Rattle.audit_report.proofs.report_text.ReportText.write_no_plan.Goals as goal

pub returns : goal.returns
returns c =
    subst
    (λ (fields : List (List ℕ)). OnOk c.write_fields.result ((text : List ℕ) → HasText c.args.self.now text → HasText c.write_fields.new.self (text ++ row_of fields)))
    (seven refl c.short_digits.ensures refl refl refl refl refl)
    c.write_fields.ensures
