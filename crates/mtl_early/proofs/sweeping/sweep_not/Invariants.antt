use Rattle.std.proofs.Common.{◌+◌}
use Rattle.mtl_formulas.specs.FormulaTree.{FormulaTree, negation}
use Rattle.mtl_formulas.specs.Traces.{Trace}
use Rattle.mtl_early.specs.Inner.Cells.{AreRight, SameOutside}
use Rattle.mtl_early.proofs.sweeping.sweep_not.Given as goal

abbrev pub invariant-loop-age : goal.invariant-loop-age
invariant-loop-age l =
    record {
      right : (rows : Trace) (s : FormulaTree) → AreRight l.fn.cells l.operand l.size rows s → AreRight l.cells l.at l.age rows (negation s);
      others : SameOutside l.fn.cells l.cells l.at (l.at + l.age);
    }
