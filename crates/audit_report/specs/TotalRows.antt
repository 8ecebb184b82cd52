-- The rows of each rule's total.
use Rattle.std.specs.Prelude.{ℕ, List, [], ◌∷◌, ◌++◌}
use Rattle.report_csv.specs.CsvRows.{row_of}
use Rattle.audit_report.specs.ReportRows.{total_fields}
use Rattle.auditor.specs.declared.total.Total.{Total}
use Rattle.rule_set.specs.NamedTrees.{NamedTree}

-- the total of each rule, in the order of the rules
abbrev pub total_rows : List NamedTree → List Total → List ℕ
total_rows (rule ∷ rules) (total ∷ totals) = row_of (total_fields rule.name total) ++ total_rows rules totals
total_rows _ _ = []
