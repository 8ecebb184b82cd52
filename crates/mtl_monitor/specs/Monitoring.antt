-- What a monitor stands for: the rows that were fed to it, and how many positions it has answered.
use Rattle.std.specs.Prelude.{◌≡◌, ℕ, ◌-◌, ◌<◌, ◌≤◌, [], ◌∷◌, length, Option, Some, None}
use Rattle.mtl_formulas.specs.declared.verdict.Verdict.{Verdict}
use Rattle.mtl_formulas.specs.FormulaTree.{FormulaTree}
use Rattle.mtl_monitor.specs.declared.monitor.Monitor.{Monitor}
use Rattle.mtl_formulas.specs.Traces.{Trace, value_in}
use Rattle.mtl_monitor.specs.Growing.{IsProgramFor}
use Rattle.mtl_monitor.specs.Following.{HasRoom, Follows, Closes, past_of, fed_of}

-- The monitor was made of this formula.
pub record IsMonitorOf (m : Monitor) (t : FormulaTree) : Type 0 where
  pub program : IsProgramFor m.program t
  pub room : HasRoom m.program m.state

-- Both were made of equal formulas.
abbrev pub AreOfOneFormula : Monitor → Monitor → Type 0
AreOfOneFormula m other = (t : FormulaTree) × (IsMonitorOf m t × IsMonitorOf other t)

-- The monitor of this formula was fed these rows, and may be fed more.
abbrev pub IsFollowing : Monitor → FormulaTree → Trace → Type 0
IsFollowing m t rows = Follows m.program m.state (t ∷ []) rows

-- The monitor of this formula was fed these rows, and no more come.
abbrev pub IsClosing : Monitor → FormulaTree → Trace → Type 0
IsClosing m t rows = Closes m.program m.state (t ∷ []) rows

-- how many rows were fed, and how many passed at the end beyond them
abbrev pub fed_rows : Monitor → ℕ
fed_rows m = fed_of m.state

abbrev pub past_rows : Monitor → ℕ
past_rows m = past_of m.state

-- how many positions are answered
abbrev pub answered : Monitor → ℕ
answered m = m.state.passed - m.program.reach

-- The next position that is not answered, with its value over the whole trace. None where all are answered.
abbrev pub IsNext : Option (ℕ × Verdict) → FormulaTree → Trace → ℕ → Type 0
IsNext None t rows answered = length rows ≤ answered
IsNext (Some a) t rows answered = (a.0 ≡ answered) × (answered < length rows) × (a.1 ≡ value_in rows t answered)
