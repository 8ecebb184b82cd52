use Rattle.std.proofs.Common.{◌+◌, ◌-◌, ◌≤◌, length}
use Rattle.mtl_formulas.specs.declared.formula.LinkKind.TheVariants.{U}
use Rattle.mtl_formulas.specs.VerdictOrder.{turned_round}
use Rattle.mtl_formulas.specs.FormulaTree.{FormulaTree, link}
use Rattle.mtl_formulas.specs.Traces.{Trace, value_in}
use Rattle.mtl_early.specs.Inner.Counts.{Reads, held_ahead}
use Rattle.mtl_early.specs.Inner.Cells.{AreRight, SameOutside}
use Rattle.mtl_early.proofs.sweeping.sweep_until.Given as goal

abbrev pub invariant-loop-age : goal.invariant-loop-age
invariant-loop-age l =
    record {
      bars : (rows : Trace) (s : FormulaTree) → l.size ≤ length rows → AreRight l.fn.cells l.first l.size rows s
          → Reads (λ k. turned_round (value_in rows s k)) l.bars l.lower (length rows - l.age);
      hits : (rows : Trace) (s t : FormulaTree) → l.size ≤ length rows → AreRight l.fn.cells l.first l.size rows s → AreRight l.fn.cells l.second l.size rows t
          → Reads (held_ahead (value_in rows s) (value_in rows t) (length rows - l.age)) l.hits l.width ((length rows - l.age) + l.lower);
      right : (rows : Trace) (s t : FormulaTree) → l.size ≤ length rows → AreRight l.fn.cells l.first l.size rows s → AreRight l.fn.cells l.second l.size rows t
          → AreRight l.cells l.at l.age rows (link U l.lower l.upper s t);
      others : SameOutside l.fn.cells l.cells l.at (l.at + l.age);
    }
