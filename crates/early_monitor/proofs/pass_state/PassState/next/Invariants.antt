use Rattle.std.proofs.Common.{◌≡◌, ℕ, ◌+◌, ◌<◌, ◌≤◌, [], ◌∷◌, ◌++◌, length}
use Rattle.mtl_formulas.specs.declared.atom.Atom.{Atom}
use Rattle.mtl_formulas.specs.declared.verdict.Verdict.{Verdict}
use Rattle.mtl_formulas.specs.FormulaTree.{FormulaTree}
use Rattle.mtl_formulas.specs.FormulaMeasures.{reach_of}
use Rattle.mtl_formulas.specs.Traces.{Trace}
use Rattle.mtl_early.specs.Decided.{IsDecidedNow}
use Rattle.early_monitor.specs.Inner.Passing.{IsLooking, IsStateOf, fed_rows}
use Rattle.early_monitor.proofs.pass_state.PassState.next.Given as goal

abbrev pub invariant-loop : goal.invariant-loop
invariant-loop l =
    record {
      of : IsStateOf l.program l.self;
      place : l.self.place ≡ l.counter;
      reach : l.self.reach ≡ l.fn.self.reach;
      fed : fed_rows l.self ≡ fed_rows l.fn.self;
      within : l.counter ≤ l.self.reach + 1;
      since : l.fn.self.place ≤ l.counter;
      same : l.counter ≡ l.fn.self.place → l.self ≡ l.fn.self;
      looks : (t : FormulaTree) (before : Trace) (row : Atom → Verdict) → IsLooking l.program l.fn.self t before row → IsLooking l.program l.self t before row;
      none : (t : FormulaTree) (before : Trace) (row : Atom → Verdict) → IsLooking l.program l.fn.self t before row → (j : ℕ)
          → l.fn.self.place + length (before ++ row ∷ []) ≤ j + (reach_of t + 1) → j + (reach_of t + 1) < l.counter + length (before ++ row ∷ [])
          → ¬ IsDecidedNow t (before ++ row ∷ []) j;
    }
