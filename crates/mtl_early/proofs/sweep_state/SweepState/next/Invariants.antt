use Rattle.std.proofs.Common.{◌≡◌, ◌≤◌, [], ◌∷◌, ◌++◌}
use Rattle.mtl_formulas.specs.declared.atom.Atom.{Atom}
use Rattle.mtl_formulas.specs.declared.verdict.Verdict.{Verdict}
use Rattle.mtl_formulas.specs.FormulaTree.{FormulaTree}
use Rattle.mtl_formulas.specs.Traces.{Trace}
use Rattle.mtl_early.specs.Standing.{IsStateOf, rows_fed}
use Rattle.mtl_early.specs.Inner.Looking.{IsLooking}
use Rattle.mtl_early.proofs.SweepLooks.{NoneFrom}
use Rattle.mtl_early.proofs.sweep_state.SweepState.next.Given as goal

abbrev pub invariant-loop-self : goal.invariant-loop-self
invariant-loop-self l =
    record {
      of : IsStateOf l.program l.self;
      fed : rows_fed l.self ≡ rows_fed l.fn.self;
      size : l.self.size ≡ l.fn.self.size;
      since : l.self.place ≤ l.fn.self.place;
      same : l.fn.self.place ≡ 0 → l.self ≡ l.fn.self;
      looks : (t : FormulaTree) (before : Trace) (row : Atom → Verdict) → IsLooking l.program l.fn.self t before row → IsLooking l.program l.self t before row;
      none : (t : FormulaTree) (before : Trace) (row : Atom → Verdict) → IsLooking l.program l.fn.self t before row → NoneFrom t (before ++ row ∷ []) l.fn.self.place l.self.place;
    }

abbrev pub decreases-loop-self : goal.decreases-loop-self
decreases-loop-self l = l.self.place
