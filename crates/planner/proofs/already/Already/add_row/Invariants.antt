use Rattle.std.proofs.Common.{◌≡◌, ℕ, ◌+◌, ◌<◌, List, false, length, get_or}
use Rattle.std.specs.Prelude.{IsTrue, ◌↔◌}
use Rattle.mtl_formulas.specs.FormulaTree.{FormulaTree}
use Rattle.mtl_monitor.specs.Following.{formula_at}
use Rattle.mtl_formulas.specs.Traces.{Trace}
use Rattle.planner.specs.Inner.Breaking.{HasPassed, IsBrokenAt}
use Rattle.planner.proofs.already.Already.add_row.Given as goal

abbrev pub invariant-loop-rule : goal.invariant-loop-rule
invariant-loop-rule l = record {
  rules : l.self.rules ≡ l.fn.self.rules;
  longer : length l.self.flags.items ≡ length l.fn.self.flags.items + l.rule;
  before : (k : ℕ) → k < length l.fn.self.flags.items → get_or l.self.flags.items k false ≡ get_or l.fn.self.flags.items k false;
  here : (r : ℕ) → r < l.rule → (formulas : List FormulaTree) (rows : Trace) (passed : ℕ) → HasPassed l.program l.values formulas rows passed
      → (IsTrue (get_or l.self.flags.items (length l.fn.self.flags.items + r) false) ↔ IsBrokenAt rows (formula_at formulas r) passed);
}
