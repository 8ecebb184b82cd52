-- The model of an early monitor: the rows so far, and the position from which it still has to return those that the
-- last row decides.
use Rattle.std.specs.Prelude.{ℕ, Option}
use Rattle.mtl_formulas.specs.declared.verdict.Verdict.{Verdict}
use Rattle.mtl_formulas.specs.FormulaTree.{FormulaTree}
use Rattle.mtl_formulas.specs.Traces.{Trace}
use Rattle.early_monitor.specs.declared.early_monitor.EarlyMonitor.{EarlyMonitor}
use Rattle.early_monitor.specs.Inner.EarlyStates as state

-- the number of rows so far
abbrev pub rows_fed : EarlyMonitor → ℕ
rows_fed m = state.rows_fed m.state

-- It has returned all positions that the last row decides.
abbrev pub HasGivenAll : EarlyMonitor → Type 0
HasGivenAll m = state.HasGivenAll m.state

-- The monitor of this formula has taken these rows and returned all positions that they decide.
abbrev pub IsAt : EarlyMonitor → FormulaTree → Trace → Type 0
IsAt m t rows = state.IsAt m.program m.state t rows

-- The monitor of this formula has taken these rows and returned those positions before `from` that the last row
-- decides.
abbrev pub IsGiving : EarlyMonitor → FormulaTree → Trace → ℕ → Type 0
IsGiving m t rows from = state.IsGiving m.program m.state t rows from

-- its state after an answer
abbrev pub Continues : Option (ℕ × Verdict) → EarlyMonitor → FormulaTree → Trace → Type 0
Continues answer m t rows = state.Continues m.program answer m.state t rows
