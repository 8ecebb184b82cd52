use Rattle.std.proofs.Common.{ℕ, List, ◌++◌, flat_map, slice_index, take}
use Rattle.report_csv.specs.CsvRows.{row_of}
use Rattle.log_lines.specs.LineOutcomes.{outcome_index}
use Rattle.audit_report.specs.ReportRows.{count_fields}
use Rattle.audit_report.specs.ReportTexts.{HasText}
use Rattle.audit_report.proofs.outcome_rows.write_each.Given as goal

-- the rows of the outcomes so far were added
abbrev pub invariant-loop-outcome : goal.invariant-loop-outcome
invariant-loop-outcome l = (front : List ℕ) → HasText l.initial.text front → HasText l.text (front
    ++ flat_map (λ outcome. row_of (count_fields outcome (slice_index l.counts (outcome_index outcome)))) (take l.outcome-index l.outcomes))
