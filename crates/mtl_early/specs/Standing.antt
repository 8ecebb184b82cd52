-- What a program of sweeps and the state of a trace stand for. A reader has only to know that a new state is at no rows, how each call
-- takes this on, and what the answers are: what the nodes keep for it is of no matter here.
use Rattle.std.specs.Prelude.{◌≡◌, ℕ, ◌+◌, ◌*◌, ◌-◌, ◌<◌, ◌≤◌, List, [], ◌∷◌, ◌++◌, length, Option, Some, None}
use Rattle.mtl_formulas.specs.declared.atom.Atom.{Atom}
use Rattle.mtl_formulas.specs.declared.verdict.Verdict.{Verdict}
use Rattle.mtl_formulas.specs.FormulaTree.{FormulaTree}
use Rattle.mtl_formulas.specs.FormulaMeasures.{reach_of}
use Rattle.mtl_formulas.specs.Traces.{Trace}
use Rattle.mtl_monitor.specs.Following.{Fits, IsProgramOf}
use Rattle.mtl_early.specs.declared.sweep_program.SweepProgram.{SweepProgram}
use Rattle.mtl_early.specs.declared.sweep_state.SweepState.{SweepState}
use Rattle.mtl_early.specs.Decided.{IsDecidedNow}
use Rattle.mtl_early.specs.Inner.Looking.{IsLooking, Stands}
use Rattle.mtl_early.specs.Inner.Nodes.{AllCompute, tree_at}

-- The program is one of this formula.
pub record IsSweepProgramOf (p : SweepProgram) (t : FormulaTree) : Type 0 where
  pub formulas : List FormulaTree
  pub trees : List FormulaTree
  pub of : IsProgramOf p.program formulas
  pub computes : AllCompute formulas trees p.nodes.items
  pub root : tree_at trees (length p.nodes.items - 1) ≡ t
  pub reach : p.reach ≡ reach_of t

-- The state is one of this program, with the room that it takes.
pub record IsStateOf (p : SweepProgram) (s : SweepState) : Type 0 where
  pub fits : Fits p.program s.state
  pub cells : length s.cells.items ≡ length p.nodes.items * (p.reach + 1)
  pub was : length s.was.items ≡ p.reach + 1
  pub sized : s.size ≤ p.reach + 1
  pub before : length s.before.items ≡ length p.nodes.items * (p.reach + 1)

-- how many rows were fed
abbrev pub rows_fed : SweepState → ℕ
rows_fed s = s.fed

-- how many positions it has yet to look at since the last row
abbrev pub left_to_look : SweepState → ℕ
left_to_look s = s.place

-- It has given all positions that the last row decides.
abbrev pub HasGivenAll : SweepState → Type 0
HasGivenAll s = left_to_look s ≡ 0

-- These rows were fed to the state of the program of this formula, and all positions that they decide were given.
pub record IsAt (p : SweepProgram) (s : SweepState) (t : FormulaTree) (rows : Trace) : Type 0 where
  pub stands : Stands p s t rows
  pub done : HasGivenAll s

-- These rows were fed, and of the positions that the last one decides those before `from` were given.
pub record IsGiving (p : SweepProgram) (s : SweepState) (t : FormulaTree) (rows : Trace) (from : ℕ) : Type 0 where
  pub before : Trace
  pub row : Atom → Verdict
  pub split : rows ≡ before ++ row ∷ []
  pub looks : IsLooking p s t before row
  pub passed : (j : ℕ) → from ≤ j → j + s.place < length rows → ¬ IsDecidedNow t rows j
  pub behind : from + s.place ≤ length rows

-- how it goes on after an answer
abbrev pub Continues : SweepProgram → Option (ℕ × Verdict) → SweepState → FormulaTree → Trace → Type 0
Continues p None s t rows = IsAt p s t rows
Continues p (Some a) s t rows = IsGiving p s t rows (a.0 + 1)
