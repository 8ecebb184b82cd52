use Rattle.std.proofs.Common.{◌≡◌, ◌≤◌, List, max}
use Rattle.mtl_formulas.specs.FormulaTree.{FormulaTree}
use Rattle.mtl_formulas.specs.Traces.{Trace}
use Rattle.mtl_monitor.specs.Following.{Fits, HasRoom, Closes}
use Rattle.mtl_monitor.proofs.trace_state.TraceState.pass_end_to.Given as goal

abbrev pub invariant-loop : goal.invariant-loop
invariant-loop l =
    record {
      fits : Fits l.program l.self;
      room : HasRoom l.program l.fn.self → HasRoom l.program l.self;
      fed : l.self.fed ≡ l.fn.self.fed;
      passed : l.self.passed ≡ max l.fn.self.passed l.counter;
      within : l.counter ≤ max l.fn.self.passed l.count;
      closes : (formulas : List FormulaTree) (rows : Trace) → Closes l.program l.fn.self formulas rows → Closes l.program l.self formulas rows;
    }
