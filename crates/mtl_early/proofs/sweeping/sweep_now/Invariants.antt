use Rattle.std.proofs.Common.{◌≡◌, ◌+◌, ◌-◌, ◌<◌, ◌≤◌, [], ◌∷◌, ◌++◌, length}
use Rattle.mtl_formulas.specs.declared.atom.Atom.{Atom}
use Rattle.mtl_formulas.specs.declared.verdict.Verdict.{Verdict}
use Rattle.mtl_formulas.specs.FormulaTree.{FormulaTree}
use Rattle.mtl_formulas.specs.FormulaMeasures.{reach_of}
use Rattle.mtl_formulas.specs.Traces.{Trace, value_in}
use Rattle.mtl_early.specs.Inner.Cells.{AreRight, SameOutside}
use Rattle.mtl_early.proofs.sweeping.sweep_now.Given as goal

abbrev pub invariant-loop-age : goal.invariant-loop-age
invariant-loop-age l =
    record {
      carried : (rows : Trace) (row : Atom → Verdict) (t : FormulaTree) → reach_of t ≡ 0 → l.size ≤ length rows + 1 → AreRight l.fn.cells l.at (l.size - 1) rows t
          → l.fn.value ≡ value_in (rows ++ row ∷ []) t (length rows) → l.age < l.size → l.carried ≡ value_in (rows ++ row ∷ []) t (length rows - l.age);
      right : (rows : Trace) (row : Atom → Verdict) (t : FormulaTree) → reach_of t ≡ 0 → l.size ≤ length rows + 1 → AreRight l.fn.cells l.at (l.size - 1) rows t
          → l.fn.value ≡ value_in (rows ++ row ∷ []) t (length rows) → AreRight l.cells l.at l.age (rows ++ row ∷ []) t;
      others : SameOutside l.fn.cells l.cells l.at (l.at + l.age);
    }
