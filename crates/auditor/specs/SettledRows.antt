-- The rows that the ticks so far decide.
use Rattle.std.specs.Prelude.{ℕ, ◌+◌, ◌-◌, List, map}
use Rattle.mtl_formulas.specs.FormulaTree.{FormulaTree}
use Rattle.mtl_monitor.specs.Reaches.{greatest_reach}
use Rattle.traces.specs.Audited.{AuditNumbers}

-- the formulas of the rules
abbrev pub formulas_of : AuditNumbers → List FormulaTree
formulas_of numbers = map (λ rule. rule.tree) numbers.rules

-- the greatest reach of a rule, in positions
abbrev pub audit_reach : AuditNumbers → ℕ
audit_reach numbers = greatest_reach (formulas_of numbers)

-- Tick k decides the rows whose last step is below this bound: the greatest reach of a rule lies between, and one more
-- position shows that a stretch has ended.
abbrev pub settled_by : AuditNumbers → ℕ → ℕ
settled_by numbers k = k - (audit_reach numbers + 1)
