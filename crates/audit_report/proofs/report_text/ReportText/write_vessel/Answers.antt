use Rattle.std.proofs.Common.{ℕ, List, ◌++◌, OnOk, refl, ap, subst, ◌∙◌}
use Rattle.std.specs.Fmt.{decimal}
use Rattle.report_csv.specs.CsvRows.{row_of}
use Rattle.audit_report.specs.ReportTexts.{HasText}
use Rattle.audit_report.proofs.RowFields.{seven}
use Rattle.audit_report.proofs.report_text.ReportText.write_vessel.Goals as goal

pub returns : goal.returns
returns c =
    subst
    (λ (fields : List (List ℕ)). OnOk c.write_fields.result ((text : List ℕ) → HasText c.args.self.now text → HasText c.write_fields.new.self (text ++ row_of fields)))
    (seven refl c.short_digits.ensures c.optional_name.ensures (c.short_digits-2.ensures ∙ ap decimal c.from.ensures) c.short_digits-3.ensures c.digits.ensures c.digits-2.ensures)
    c.write_fields.ensures
