use Rattle.std.proofs.Common.{◌+◌}
use Rattle.mtl_formulas.specs.FormulaTree.{FormulaTree, pair}
use Rattle.mtl_formulas.specs.Traces.{Trace}
use Rattle.mtl_early.specs.Inner.Cells.{AreRight, SameOutside}
use Rattle.mtl_early.proofs.sweeping.sweep_pair.Given as goal

abbrev pub invariant-loop-age : goal.invariant-loop-age
invariant-loop-age l =
    record {
      right : (rows : Trace) (s t : FormulaTree) → AreRight l.fn.cells l.first l.size rows s → AreRight l.fn.cells l.second l.size rows t
          → AreRight l.cells l.at l.age rows (pair l.kind s t);
      others : SameOutside l.fn.cells l.cells l.at (l.at + l.age);
    }
