-- When the value of a formula (Koymans 1990) at a position of a trace is decided, as its rows come one by one.
use Rattle.std.specs.Prelude.{◌≡◌, ◌≢◌, ℕ, ◌<◌, ◌≤◌, length, take, Option, Some, None}
use Rattle.mtl_formulas.specs.declared.verdict.Verdict.{Verdict}
use Rattle.mtl_formulas.specs.declared.verdict.Verdict.TheVariants.{Open}
use Rattle.mtl_formulas.specs.FormulaTree.{FormulaTree}
use Rattle.mtl_formulas.specs.Traces.{Trace, value_in}

-- Exactly the first m rows decide it: over them the value at position i is Yes or No, and over no fewer.
pub record IsDecided (t : FormulaTree) (rows : Trace) (i m : ℕ) : Type 0 where
  pub inside : i < m
  pub among : m ≤ length rows
  pub decided : value_in (take m rows) t i ≢ Open
  pub first : (k : ℕ) → k < m → value_in (take k rows) t i ≡ Open

-- All these rows decide it, and no fewer: the last of them was needed.
abbrev pub IsDecidedNow : FormulaTree → Trace → ℕ → Type 0
IsDecidedNow t rows i = IsDecided t rows i (length rows)

-- ---- the positions that the last row decides, one after the other

-- The next of them, from one on, with its value.
pub record IsFirstDecided (t : FormulaTree) (rows : Trace) (from i : ℕ) (v : Verdict) : Type 0 where
  pub after : from ≤ i
  pub decided : IsDecidedNow t rows i
  pub value : v ≡ value_in rows t i
  pub first : (j : ℕ) → from ≤ j → j < i → ¬ IsDecidedNow t rows j

-- `None` where there is none.
abbrev pub IsNextDecided : Option (ℕ × Verdict) → FormulaTree → Trace → ℕ → Type 0
IsNextDecided None t rows from = (j : ℕ) → from ≤ j → ¬ IsDecidedNow t rows j
IsNextDecided (Some a) t rows from = IsFirstDecided t rows from a.0 a.1
