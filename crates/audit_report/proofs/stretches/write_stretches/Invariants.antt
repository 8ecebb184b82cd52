use Rattle.std.proofs.Common.{ℕ, List, ◌++◌, take}
use Rattle.audit_report.specs.ReportTexts.{HasText}
use Rattle.audit_report.specs.StretchRows.{stretch_rows}
use Rattle.audit_report.proofs.stretches.write_stretches.Given as goal

-- the rows so far were added
abbrev pub invariant-loop-row : goal.invariant-loop-row
invariant-loop-row l = (front : List ℕ) → HasText l.initial.text front → HasText l.text (front ++ stretch_rows l.rules (take l.row-index l.rows))
