use Rattle.std.proofs.Common.{rules, ◌≡◌, ℕ, List, ◌++◌, OnOk, refl, subst}
use Rattle.std.specs.Fmt.{signed_decimal}
use Rattle.report_csv.specs.CsvRows.{row_of}
use Rattle.audit_report.specs.ReportTexts.{HasText}
use Rattle.audit_report.proofs.RowFields.{seven}
use Rattle.audit_report.proofs.report_text.ReportText.write_point.Goals as goal

pub returns : goal.returns
returns c =
    let x : c.signed_digits.result.now ≡ signed_decimal c.args.point.x = search rules in
    let y : c.signed_digits-2.result.now ≡ signed_decimal c.args.point.y = search rules in
    subst
    (λ (fields : List (List ℕ)). OnOk c.write_fields.result ((text : List ℕ) → HasText c.args.self.now text → HasText c.write_fields.new.self (text ++ row_of fields)))
    (seven refl c.short_digits.ensures c.digits.ensures x y c.optional_digits.ensures c.optional_digits-2.ensures)
    c.write_fields.ensures
