use Rattle.std.proofs.Common.{ℕ, List, ◌++◌, OnOk, refl, ap, subst, ◌∙◌}
use Rattle.std.specs.Fmt.{decimal}
use Rattle.report_csv.specs.CsvRows.{row_of}
use Rattle.audit_report.specs.ReportTexts.{HasText}
use Rattle.audit_report.proofs.RowFields.{seven}
use Rattle.audit_report.proofs.report_text.ReportText.write_plan.Goals as goal

pub returns : goal.returns
returns c =
    subst
    (λ (fields : List (List ℕ)). OnOk c.write_fields.result ((text : List ℕ) → HasText c.args.self.now text → HasText c.write_fields.new.self (text ++ row_of fields)))
    (seven refl c.short_digits.ensures (c.short_digits-2.ensures ∙ ap decimal c.from.ensures) (c.short_digits-3.ensures ∙ ap decimal c.from-2.ensures) (c.short_digits-4.ensures ∙ ap decimal c.from-3.ensures) c.short_digits-5.ensures c.short_digits-6.ensures)
    c.write_fields.ensures
