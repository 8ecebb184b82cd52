-- The model of a state that passes rows beyond the last one, and its checks of the positions that this may decide,
-- index by index.
use Rattle.std.specs.Prelude.{◌≡◌, ℕ, ◌+◌, ◌-◌, ◌<◌, ◌≤◌, [], ◌∷◌, ◌++◌, length, Option, Some, None}
use Rattle.mtl_formulas.specs.declared.atom.Atom.{Atom}
use Rattle.mtl_formulas.specs.declared.verdict.Verdict.{Verdict}
use Rattle.mtl_formulas.specs.FormulaTree.{FormulaTree}
use Rattle.mtl_formulas.specs.FormulaMeasures.{reach_of}
use Rattle.mtl_monitor.specs.Following.{AreStatesOf, Follows, Closes, IsProgramOf, fed_of, past_of}
use Rattle.mtl_formulas.specs.Traces.{Trace, value_in}
use Rattle.mtl_monitor.specs.declared.program.Program.{Program}
use Rattle.early_monitor.specs.declared.pass_program.PassProgram.{PassProgram}
use Rattle.early_monitor.specs.declared.pass_state.PassState.{PassState}
use Rattle.mtl_early.specs.Decided.{IsDecidedNow}
use Rattle.early_monitor.specs.Inner.Known.{is_known, known_at}

-- The program has only this formula.
abbrev pub IsPassProgramOf : PassProgram → FormulaTree → Type 0
IsPassProgramOf p t = IsProgramOf p.program (t ∷ []) × (p.reach ≡ reach_of t)

-- Both of its states belong to this program.
abbrev pub IsStateOf : Program → PassState → Type 0
IsStateOf p s = AreStatesOf p s.ahead s.state

-- the number of rows so far
abbrev pub fed_rows : PassState → ℕ
fed_rows s = fed_of s.state

-- the number of positions still to check
abbrev pub left_to_look : PassState → ℕ
left_to_look s = (s.reach + 1) - s.place

-- It has checked all positions.
abbrev pub HasLookedAll : PassState → Type 0
HasLookedAll s = s.place ≡ s.reach + 1

-- ---- between rows

-- The state of this formula's program has taken these rows and returned all positions that they decide.
pub record IsAt (p : Program) (s : PassState) (t : FormulaTree) (rows : Trace) : Type 0 where
  pub follows : Follows p s.state (t ∷ []) rows
  pub reach : s.reach ≡ reach_of t
  pub done : HasLookedAll s
  pub known : (k : ℕ) → k ≤ s.reach → known_at s.known.items k ≡ is_known rows t k

-- ---- after a row

-- It has checked the positions before its own. Its notes on those take all rows into account, the others only the rows
-- before the last.
pub record IsLooking (p : Program) (s : PassState) (t : FormulaTree) (before : Trace) (row : Atom → Verdict) : Type 0 where
  pub follows : Follows p s.state (t ∷ []) (before ++ row ∷ [])
  pub reach : s.reach ≡ reach_of t
  pub ahead : Closes p s.ahead (t ∷ []) (before ++ row ∷ [])
  pub past : past_of s.ahead ≡ s.place
  pub new : (k : ℕ) → k < s.place → known_at s.known.items k ≡ is_known (before ++ row ∷ []) t k
  pub old : (k : ℕ) → s.place ≤ k → k ≤ s.reach → known_at s.known.items k ≡ is_known before t k

-- a position that the last row decides, at a place
pub record IsDecidedAt (a : ℕ × Verdict) (t : FormulaTree) (rows : Trace) (place : ℕ) : Type 0 where
  pub position : a.0 + (reach_of t + 1) ≡ place + length rows
  pub decided : IsDecidedNow t rows a.0
  pub value : a.1 ≡ value_in rows t a.0

-- The position at an index that the last row decides, with its value; `None` if it decides none there.
abbrev pub IsLooked : Option (ℕ × Verdict) → FormulaTree → Trace → ℕ → Type 0
IsLooked None t rows place = (j : ℕ) → j + (reach_of t + 1) ≡ place + length rows → ¬ IsDecidedNow t rows j
IsLooked (Some a) t rows place = IsDecidedAt a t rows place

-- ---- while it returns positions

-- It has taken these rows and returned those positions before `from` that the last row decides.
pub record IsGiving (p : Program) (s : PassState) (t : FormulaTree) (rows : Trace) (from : ℕ) : Type 0 where
  pub before : Trace
  pub row : Atom → Verdict
  pub split : rows ≡ before ++ row ∷ []
  pub looks : IsLooking p s t before row
  pub passed : (j : ℕ) → from ≤ j → j + (reach_of t + 1) < s.place + length rows → ¬ IsDecidedNow t rows j
  pub behind : from ≤ (s.place + length rows) - (reach_of t + 1)

-- its state after an answer
abbrev pub Continues : Program → Option (ℕ × Verdict) → PassState → FormulaTree → Trace → Type 0
Continues p None s t rows = IsAt p s t rows
Continues p (Some a) s t rows = IsGiving p s t rows (a.0 + 1)
