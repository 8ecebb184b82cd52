-- Which positions near a trace's end have a value that no further row changes.
use Rattle.std.specs.Prelude.{ℕ, ◌+◌, ◌-◌, nat_le, ◌&&◌, Bool, true, false, List, length, get_or, Option, Some, None}
use Rattle.mtl_formulas.specs.declared.verdict.Verdict.{Verdict}
use Rattle.mtl_formulas.specs.declared.verdict.Verdict.TheVariants.{No, Open, Yes}
use Rattle.mtl_formulas.specs.FormulaTree.{FormulaTree}
use Rattle.mtl_formulas.specs.FormulaMeasures.{reach_of}
use Rattle.mtl_formulas.specs.Traces.{Trace, value_in}

-- Yes or No
abbrev pub is_decided : Verdict → Bool
is_decided No = true
is_decided Open = false
is_decided Yes = true

-- The position of an index. Index 0 is for the position one reach before the last row, and the last index, which equals
-- the reach, for the last row's own position.
abbrev pub position_at : Trace → FormulaTree → ℕ → ℕ
position_at rows t k = (k + length rows) - (reach_of t + 1)

-- whether there is such a position, and its value is known
abbrev pub is_known : Trace → FormulaTree → ℕ → Bool
is_known rows t k = nat_le (reach_of t + 1) (k + length rows) && is_decided (value_in rows t (position_at rows t k))

-- a monitor's note at an index; there is none beyond the last index
abbrev pub known_at : List Bool → ℕ → Bool
known_at known k = get_or known k false

-- an answer of Yes or No
abbrev pub is_answered : Option (ℕ × Verdict) → Bool
is_answered None = false
is_answered (Some a) = is_decided a.1
