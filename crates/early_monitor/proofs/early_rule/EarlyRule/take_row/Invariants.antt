use Rattle.std.proofs.Common.{◌≡◌, ℕ, ◌+◌, [], ◌∷◌, ◌++◌}
use Rattle.meetings.specs.Answers.{answer_of}
use Rattle.mtl_formulas.specs.FormulaTree.{FormulaTree}
use Rattle.mtl_formulas.specs.Traces.{Trace}
use Rattle.early_monitor.specs.Inner.Breaches.{Adds, IsBreachBefore}
use Rattle.early_monitor.specs.Inner.EarlyStates.{IsAt, IsGiving, IsStateOf, left_to_look, rows_fed}
use Rattle.early_monitor.proofs.early_rule.EarlyRule.take_row.Given as goal

abbrev pub invariant-loop-position : goal.invariant-loop-position
invariant-loop-position l =
    record {
      of : IsStateOf l.self.program l.state;
      fed : rows_fed l.state ≡ rows_fed l.fn.state + 1;
      gives : (t : FormulaTree) (rows : Trace) → IsAt l.self.program l.fn.state t rows
          → (from : ℕ) × IsGiving l.self.program l.state t (rows ++ answer_of l.row ∷ []) from
          × Adds (IsBreachBefore from l.place t (rows ++ answer_of l.row ∷ [])) l.fn.alarms.keys l.alarms.keys;
    }

abbrev pub decreases-loop-position : goal.decreases-loop-position
decreases-loop-position l = left_to_look l.state
