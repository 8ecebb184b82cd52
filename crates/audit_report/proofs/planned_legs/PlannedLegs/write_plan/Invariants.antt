use Rattle.std.proofs.Common.{ℕ, List, ◌++◌, flat_map}
use Rattle.std.specs.List.{range_with_len}
use Rattle.report_csv.specs.CsvRows.{row_of}
use Rattle.audit_report.specs.ReportTexts.{HasText}
use Rattle.audit_report.specs.PlanRows.{leg_fields}
use Rattle.audit_report.proofs.planned_legs.PlannedLegs.write_plan.Given as goal

-- the rows of the first legs were added
abbrev pub invariant-loop-leg : goal.invariant-loop-leg
invariant-loop-leg l = (front : List ℕ) → HasText l.initial.text front
    → HasText l.text (front ++ flat_map (λ leg. row_of (leg_fields l.self.begin l.self.lattice.now l.self.ready l.plan leg)) (range_with_len 0 l.leg))
