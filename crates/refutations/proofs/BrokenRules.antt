-- Whether the rule with an index is newly broken at a step.
use Rattle.std.proofs.Common.{ℕ, ◌<◌, List, length}
use Rattle.std.specs.Prelude.{◌↔◌}
use Rattle.mtl_formulas.specs.FormulaTree.{FormulaTree}
use Rattle.rule_set.specs.NamedTrees.{rule_at}
use Rattle.plan_situations.specs.FailingPlans.{BreaksAt}
use Rattle.plan_situations.specs.Reasons.{RuleBreaksAt}
use Rattle.plan_situations.specs.declared.situation.Situation.{Situation}
use Rattle.plan_situations.specs.declared.situation.Target.{Target}
use Rattle.plan_situations.proofs.ForCallers.{rule_known, rule_there}

-- the rule with an index
pub rule_breaks_there : (s : Situation) (X : List ℕ) (last : ℕ) (T : Target) (index step : ℕ) → index < length s.rules
    → RuleBreaksAt s X last T step index ↔ BreaksAt s X last T (rule_at s.rules index).tree step
rule_breaks_there s X last T index step lt = (
  λ h. (rule_there s.rules (λ (f : FormulaTree). BreaksAt s X last T f step) index h).1,
  λ h. rule_known s.rules (λ (f : FormulaTree). BreaksAt s X last T f step) index lt h,
)

-- ---- tests

pub back : {P Q : Type 0} → P ↔ Q → Q ↔ P
back f = (f.1, f.0)
