use Rattle.std.proofs.Common.{ℕ, ◌+◌, ◌-◌, ◌<◌, ◌≤◌, [], ◌∷◌, ◌++◌, List, length}
use Rattle.mtl_formulas.specs.declared.atom.Atom.{Atom}
use Rattle.mtl_formulas.specs.declared.verdict.Verdict.{Verdict}
use Rattle.mtl_formulas.specs.FormulaTree.{FormulaTree}
use Rattle.mtl_formulas.specs.Traces.{Trace}
use Rattle.mtl_early.specs.Inner.Cells.{AreRight}
use Rattle.mtl_early.specs.Inner.Rests.{ReadsNow}
use Rattle.mtl_early.specs.Inner.Nodes.{AllCompute, AllRight, OperandsRight, cells_of, tree_at}
use Rattle.mtl_early.proofs.sweeper.sweep_all.Given as goal

-- The nodes before k hold their values with the new row, and the others those before it.
abbrev pub invariant-loop-k : goal.invariant-loop-k
invariant-loop-k l =
    record {
      written : (formulas trees : List FormulaTree) (rows : Trace) (row : Atom → Verdict) → ReadsNow l.program l.state formulas rows row
          → AllCompute formulas trees l.nodes → l.size ≤ length rows + 1 → AllRight l.nodes trees l.fn.cells (l.size - 1) rows
          → OperandsRight l.nodes trees l.cells l.k l.size (rows ++ row ∷ []);
      waiting : (trees : List FormulaTree) (rows : Trace) → AllRight l.nodes trees l.fn.cells (l.size - 1) rows
          → (j : ℕ) → l.k ≤ j → j < length l.nodes → AreRight l.cells (cells_of l.nodes j) (l.size - 1) rows (tree_at trees j);
    }
