use Rattle.std.proofs.Common.{ℕ, List, ◌++◌, take}
use Rattle.audit_report.specs.ReportTexts.{HasText}
use Rattle.audit_report.specs.TotalRows.{total_rows}
use Rattle.audit_report.proofs.totals.write_totals.Given as goal

-- the rows of the first rules were added
abbrev pub invariant-loop-rule : goal.invariant-loop-rule
invariant-loop-rule l = (front : List ℕ) → HasText l.initial.text front → HasText l.text (front ++ total_rows (take l.rule l.rules) (take l.rule l.totals))
