use Rattle.std.proofs.Common.{◌≡◌, ℕ, ◌<◌, List, false}
use Rattle.mtl_formulas.specs.FormulaTree.{FormulaTree}
use Rattle.mtl_monitor.specs.Following.{formula_at}
use Rattle.mtl_formulas.specs.Traces.{Trace}
use Rattle.planner.specs.Inner.Breaking.{HasPassed, IsBrokenAt, flag_at}
use Rattle.planner.proofs.already.Already.is_newly_broken.Given as goal

abbrev pub invariant-loop-rule : goal.invariant-loop-rule
invariant-loop-rule l = (formulas : List FormulaTree) (rows : Trace) (passed : ℕ) → HasPassed l.program l.values formulas rows passed → (r : ℕ) → r < l.rule
    → IsBrokenAt rows (formula_at formulas r) passed → flag_at l.self l.index r ≡ false → ⊥
