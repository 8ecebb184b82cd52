-- How many positions before a trace's end may still be decided by further rows.
use Rattle.std.specs.Prelude.{◌≢◌, ℕ, zero, suc, ◌+◌, ◌<◌, ◌≤◌, ◌⊎◌, List, length}
use Rattle.mtl_formulas.specs.declared.verdict.Verdict.{Verdict}
use Rattle.mtl_early.specs.Inner.Cells.{cell_at}
use Rattle.mtl_formulas.specs.declared.verdict.Verdict.TheVariants.{Open}
use Rattle.mtl_formulas.specs.FormulaTree.{FormulaTree}
use Rattle.mtl_formulas.specs.FormulaMeasures.{reach_of}
use Rattle.mtl_formulas.specs.Traces.{Trace, value_in}

-- The value is decided, or no row is left that could decide it.
abbrev pub IsFinished : FormulaTree → Trace → ℕ → Type 0
IsFinished t rows i = (value_in rows t i ≢ Open) ⊎ (i + reach_of t < length rows)

-- All positions but the last so many are finished.
abbrev pub HasZone : FormulaTree → Trace → ℕ → Type 0
HasZone t rows zone = (i : ℕ) → i + zone < length rows → IsFinished t rows i

-- The cell of this age is decided, or no further row can decide it.
abbrev pub IsBehind : List Verdict → ℕ → ℕ → ℕ → Type 0
IsBehind cells at reach age = (cell_at cells (at + age) ≢ Open) ⊎ (reach ≤ age)

-- what was kept of the position that now has this age
abbrev pub old_value : List Verdict → ℕ → Verdict
old_value was zero = Open
old_value was (suc age) = cell_at was age
