-- How a state looks at the positions that the last row may decide, age after age.
use Rattle.std.specs.Prelude.{◌≡◌, ℕ, ◌+◌, ◌-◌, ◌<◌, ◌≤◌, true, List, [], ◌∷◌, ◌++◌, length, Option, Some, None}
use Rattle.mtl_formulas.specs.declared.atom.Atom.{Atom}
use Rattle.mtl_formulas.specs.declared.verdict.Verdict.{Verdict}
use Rattle.mtl_formulas.specs.FormulaTree.{FormulaTree}
use Rattle.mtl_formulas.specs.FormulaMeasures.{reach_of}
use Rattle.mtl_monitor.specs.Following.{Follows}
use Rattle.mtl_formulas.specs.Traces.{Trace, value_in}
use Rattle.mtl_early.specs.declared.sweep_program.SweepProgram.{SweepProgram}
use Rattle.mtl_early.specs.declared.sweep_state.SweepState.{SweepState}
use Rattle.mtl_early.specs.Decided.{IsDecidedNow}
use Rattle.mtl_early.specs.Inner.Cells.{aged, cell_at}
use Rattle.mtl_early.specs.Inner.Nodes.{AllCompute, AllRight, cells_of, tree_at}
use Rattle.mtl_early.specs.Inner.Rests.{AreLast}
use Rattle.mtl_early.specs.Inner.Zones.{HasZone}

-- A pass leaves the cells as they are, for each row with these last values, and what was kept of the formula's is the same.
pub record IsAtRest (p : SweepProgram) (s : SweepState) (formulas trees : List FormulaTree) : Type 0 where
  pub swept : (rows : Trace) (row : Atom → Verdict) → AreLast p.program s.state formulas rows row → s.size ≤ length rows + 1
      → AllRight p.nodes.items trees s.cells.items (s.size - 1) rows → AllRight p.nodes.items trees s.cells.items s.size (rows ++ row ∷ [])
  pub kept : (age : ℕ) → age + 1 < s.size → cell_at s.was.items age ≡ cell_at s.cells.items (cells_of p.nodes.items (length p.nodes.items - 1) + age)

-- These rows were fed to the state of the program of this formula: the cells hold the values over them, as many as may still be decided.
pub record Stands (p : SweepProgram) (s : SweepState) (t : FormulaTree) (rows : Trace) : Type 0 where
  pub formulas : List FormulaTree
  pub trees : List FormulaTree
  pub follows : Follows p.program s.state formulas rows
  pub computes : AllCompute formulas trees p.nodes.items
  pub root : tree_at trees (length p.nodes.items - 1) ≡ t
  pub reach : p.reach ≡ reach_of t
  pub all_fed : s.fed ≡ length rows
  pub right : AllRight p.nodes.items trees s.cells.items s.size rows
  pub zone : HasZone t rows s.size
  pub rests : s.still ≡ true → IsAtRest p s formulas trees

-- The last of these rows was fed, and what was kept is by those before.
pub record IsLooking (p : SweepProgram) (s : SweepState) (t : FormulaTree) (before : Trace) (row : Atom → Verdict) : Type 0 where
  pub stands : Stands p s t (before ++ row ∷ [])
  pub old : (age : ℕ) → age + 1 < s.size → cell_at s.was.items age ≡ value_in before t (aged before age)

-- a position that the last row decides, with an age
pub record IsDecidedAt (a : ℕ × Verdict) (t : FormulaTree) (rows : Trace) (age : ℕ) : Type 0 where
  pub position : a.0 + (age + 1) ≡ length rows
  pub decided : IsDecidedNow t rows a.0
  pub value : a.1 ≡ value_in rows t a.0

-- The last row decides the position of an age, with its value. `None` where it does not.
abbrev pub IsLooked : Option (ℕ × Verdict) → FormulaTree → Trace → ℕ → Type 0
IsLooked None t rows age = (j : ℕ) → j + (age + 1) ≡ length rows → ¬ IsDecidedNow t rows j
IsLooked (Some a) t rows age = IsDecidedAt a t rows age
