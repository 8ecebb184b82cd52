use Rattle.std.proofs.Common.{◌+◌, ◌-◌, ◌≤◌, length}
use Rattle.mtl_formulas.specs.FormulaTree.{FormulaTree, span}
use Rattle.mtl_formulas.specs.Traces.{Trace, value_in}
use Rattle.mtl_early.specs.Inner.Counts.{Reads, sensed}
use Rattle.mtl_early.specs.Inner.Cells.{AreRight, SameOutside, ahead_kind}
use Rattle.mtl_early.proofs.sweeping.sweep_ahead.Given as goal

abbrev pub invariant-loop-age : goal.invariant-loop-age
invariant-loop-age l =
    record {
      reads : (rows : Trace) (s : FormulaTree) → l.size ≤ length rows → AreRight l.fn.cells l.operand l.size rows s
          → Reads (λ k. sensed l.turned (value_in rows s k)) l.left l.width ((length rows + l.lower) - l.age);
      right : (rows : Trace) (s : FormulaTree) → l.size ≤ length rows → AreRight l.fn.cells l.operand l.size rows s
          → AreRight l.cells l.at l.age rows (span (ahead_kind l.turned) l.lower l.upper s);
      others : SameOutside l.fn.cells l.cells l.at (l.at + l.age);
    }
