-- The models of an early program and of its state, by the form of both.
use Rattle.std.specs.Prelude.{ℕ, Option, Some, None, ◌+◌}
use Rattle.mtl_formulas.specs.declared.verdict.Verdict.{Verdict}
use Rattle.mtl_formulas.specs.FormulaTree.{FormulaTree}
use Rattle.mtl_formulas.specs.Traces.{Trace}
use Rattle.mtl_early.specs.Standing as sweeps
use Rattle.early_monitor.specs.declared.early_program.EarlyProgram.{EarlyProgram}
use Rattle.early_monitor.specs.declared.early_program.EarlyProgram.TheVariants as program
use Rattle.early_monitor.specs.declared.early_program.EarlyState.{EarlyState}
use Rattle.early_monitor.specs.declared.early_program.EarlyState.TheVariants as state
use Rattle.early_monitor.specs.Inner.Passing as passes

-- The program belongs to this formula.
abbrev pub IsEarlyProgramOf : EarlyProgram → FormulaTree → Type 0
IsEarlyProgramOf (program.Sweeps p) t = sweeps.IsSweepProgramOf p t
IsEarlyProgramOf (program.Passes p) t = passes.IsPassProgramOf p t

-- The state belongs to this program.
abbrev pub IsStateOf : EarlyProgram → EarlyState → Type 0
IsStateOf (program.Sweeps p) (state.Sweeps s) = sweeps.IsStateOf p s.value
IsStateOf (program.Passes p) (state.Passes s) = passes.IsStateOf p.program s.value
IsStateOf (program.Sweeps p) (state.Passes s) = ⊥
IsStateOf (program.Passes p) (state.Sweeps s) = ⊥

-- the number of rows so far
abbrev pub rows_fed : EarlyState → ℕ
rows_fed (state.Sweeps s) = sweeps.rows_fed s.value
rows_fed (state.Passes s) = passes.fed_rows s.value

-- the number of positions still to check since the last row
abbrev pub left_to_look : EarlyState → ℕ
left_to_look (state.Sweeps s) = sweeps.left_to_look s.value
left_to_look (state.Passes s) = passes.left_to_look s.value

-- It has returned all positions that the last row decides.
abbrev pub HasGivenAll : EarlyState → Type 0
HasGivenAll (state.Sweeps s) = sweeps.HasGivenAll s.value
HasGivenAll (state.Passes s) = passes.HasLookedAll s.value

-- The state of this formula's program has taken these rows and returned all positions that they decide.
abbrev pub IsAt : EarlyProgram → EarlyState → FormulaTree → Trace → Type 0
IsAt (program.Sweeps p) (state.Sweeps s) t rows = sweeps.IsAt p s.value t rows
IsAt (program.Passes p) (state.Passes s) t rows = passes.IsAt p.program s.value t rows
IsAt (program.Sweeps p) (state.Passes s) t rows = ⊥
IsAt (program.Passes p) (state.Sweeps s) t rows = ⊥

-- It has taken these rows and returned those positions before `from` that the last row decides.
abbrev pub IsGiving : EarlyProgram → EarlyState → FormulaTree → Trace → ℕ → Type 0
IsGiving (program.Sweeps p) (state.Sweeps s) t rows from = sweeps.IsGiving p s.value t rows from
IsGiving (program.Passes p) (state.Passes s) t rows from = passes.IsGiving p.program s.value t rows from
IsGiving (program.Sweeps p) (state.Passes s) t rows from = ⊥
IsGiving (program.Passes p) (state.Sweeps s) t rows from = ⊥

-- its state after an answer
abbrev pub Continues : EarlyProgram → Option (ℕ × Verdict) → EarlyState → FormulaTree → Trace → Type 0
Continues p None s t rows = IsAt p s t rows
Continues p (Some a) s t rows = IsGiving p s t rows (a.0 + 1)
