-- The rows of stretches, written one after the other.
use Rattle.std.proofs.Common.{ℕ, ◌+◌, ◌<◌, List, ◌++◌, length, take, append_assoc, ap, subst, ◌∙◌}
use Rattle.std.proofs.Math.ListN.{get_or}
use Rattle.audit_rows.specs.declared.row.Row.{Row}
use Rattle.report_csv.specs.CsvRows.{row_of}
use Rattle.audit_report.specs.ReportTexts.{HasText}
use Rattle.audit_report.specs.declared.report_text.ReportText.{ReportText}
use Rattle.rule_set.specs.NamedTrees.{NamedTree}
use Rattle.audit_report.specs.StretchRows.{stretch_fields, stretch_rows}
use Rattle.audit_report.proofs.Pushing.{rows_push}

-- the rows of the first stretches, and one more
pub one_stretch_on : (text : ReportText) (front : List ℕ) (rules : List NamedTree) (rows : List Row) (k : ℕ) (d : Row) → k < length rows
    → HasText text ((front ++ stretch_rows rules (take k rows)) ++ row_of (stretch_fields rules (get_or rows k d)))
    → HasText text (front ++ stretch_rows rules (take (k + 1) rows))
one_stretch_on text front rules rows k d lt has =
    let f : Row → List ℕ = λ r. row_of (stretch_fields rules r) in
    subst (HasText text)
    (append_assoc front (stretch_rows rules (take k rows)) (f (get_or rows k d)) ∙ ap (λ (l : List ℕ). front ++ l) (rows_push f rows k d lt))
    has
