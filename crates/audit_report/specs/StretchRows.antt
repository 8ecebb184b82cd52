-- The rows of an audit's stretches.
use Rattle.std.specs.Prelude.{ℕ, ◌<◌, ⊤, All, flat_map, length, List}
use Rattle.report_csv.specs.CsvRows.{row_of, Fields}
use Rattle.audit_report.specs.ReportRows.{meeting_fields, verdict_fields}
use Rattle.audit_rows.specs.declared.row.Row.{Row}
use Rattle.audit_rows.specs.declared.row.Row.TheVariants as row
use Rattle.rule_set.specs.NamedTrees.{NamedTree, rule_at}

-- the row of a stretch
abbrev pub stretch_fields : List NamedTree → Row → Fields
stretch_fields rules (row.Meeting pair kind first last least) = meeting_fields pair kind first last least
stretch_fields rules (row.Verdict pair rule undecided first last) = verdict_fields pair (rule_at rules rule).name undecided first last

abbrev pub stretch_rows : List NamedTree → List Row → List ℕ
stretch_rows rules rows = flat_map (λ r. row_of (stretch_fields rules r)) rows

-- A verdict is of one of the rules.
abbrev pub IsOfRules : List NamedTree → Row → Type 0
IsOfRules rules (row.Meeting pair kind first last least) = ⊤
IsOfRules rules (row.Verdict pair rule undecided first last) = rule < length rules

abbrev pub AreOfRules : List NamedTree → List Row → Type 0
AreOfRules rules rows = All (IsOfRules rules) rows
