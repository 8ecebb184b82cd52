-- What a program and the state of a trace stand for. A reader has only to know that a new state follows no rows, how each call
-- takes this on, and what the answers are: what the nodes keep for it is of no matter here.
use Rattle.std.specs.Prelude.{◌≡◌, ℕ, ◌+◌, ◌-◌, ◌<◌, ◌≤◌, List, ◌++◌, length, get_or, ◌⊎◌, Option, Some, None, true, false}
use Rattle.mtl_formulas.specs.declared.atom.Atom.TheVariants.{Always}
use Rattle.mtl_formulas.specs.declared.verdict.Verdict.{Verdict}
use Rattle.mtl_formulas.specs.FormulaTree.{FormulaTree, leaf}
use Rattle.mtl_formulas.specs.FormulaMeasures.{reach_of}
use Rattle.mtl_monitor.specs.declared.building.Operand.{Operand}
use Rattle.mtl_monitor.specs.declared.node.ProgramNode.{ProgramNode}
use Rattle.mtl_monitor.specs.declared.program.Program.{Program}
use Rattle.mtl_monitor.specs.declared.trace_state.TraceState.{TraceState}
use Rattle.mtl_monitor.specs.Reaches.{greatest_reach}
use Rattle.mtl_formulas.specs.Traces.{Trace, value_in}
use Rattle.mtl_monitor.specs.Inner.Steps.{value_at}
use Rattle.mtl_monitor.specs.Inner.Standing.{tree_at, late_at, root_at, Sound, KeepAll, GiveAll}
use Rattle.mtl_monitor.specs.Inner.Copying.{HaveShapes}
use Rattle.mtl_monitor.specs.Inner.Quiet.{AreQuiet, flag_at}
use Rattle.mtl_monitor.specs.Inner.Reading.{AreAllListed}
use Rattle.mtl_monitor.specs.Inner.Idle.{AreAlikeTraces, HasShown, is_idle}

-- the formula with this index
abbrev pub formula_at : List FormulaTree → ℕ → FormulaTree
formula_at formulas k = get_or formulas k (leaf Always)

-- The node computes the formula, as late as that reaches.
pub record IsRoot (nodes : List ProgramNode) (trees : List FormulaTree) (root : Operand) (t : FormulaTree) : Type 0 where
  pub inside : root.index < length nodes
  pub tree : tree_at trees root.index ≡ t
  pub late : root.late ≡ reach_of t
  pub lateness : late_at nodes root.index ≡ root.late

-- The nodes compute these trees, and the roots among them these formulas.
pub record IsProgramWith (p : Program) (formulas trees : List FormulaTree) : Type 0 where
  pub sound : Sound p.nodes.items trees
  pub count : length p.roots.items ≡ length formulas
  pub each : (k : ℕ) → k < length formulas → IsRoot p.nodes.items trees (root_at p.roots.items k) (formula_at formulas k)
  pub farthest : p.reach ≡ greatest_reach formulas
  pub listed : AreAllListed p.nodes.items p.atoms.items p.asked.items
  pub idle : p.idle ≡ true → (k : ℕ) → k < length formulas → is_idle true (formula_at formulas k) ≡ true

-- The program is one of these formulas, in this order.
pub record IsProgramOf (p : Program) (formulas : List FormulaTree) : Type 0 where
  pub trees : List FormulaTree
  pub of : IsProgramWith p formulas trees

-- how many formulas
abbrev pub count_of : Program → ℕ
count_of p = length p.roots.items

-- The state is one of this program.
pub record Fits (p : Program) (s : TraceState) : Type 0 where
  pub states : length s.states.items ≡ length p.nodes.items
  pub values : length s.values.items ≡ length p.nodes.items
  pub moving : length s.moving.items ≡ length p.nodes.items

-- It has the room that the program takes, so it can take over any other state that has this room too.
abbrev pub HasRoom : Program → TraceState → Type 0
HasRoom p s = HaveShapes p.nodes.items s.states.items

-- Both are states of this program.
abbrev pub AreStatesOf : Program → TraceState → TraceState → Type 0
AreStatesOf p s r = Fits p s × HasRoom p s × Fits p r × HasRoom p r

-- how many rows were fed, and how many passed at the end beyond them
abbrev pub fed_of : TraceState → ℕ
fed_of s = s.fed

abbrev pub past_of : TraceState → ℕ
past_of s = s.passed - s.fed

-- the value of a formula at the position that the last row has decided
abbrev pub last_value : Program → TraceState → ℕ → Verdict
last_value p s k = value_at s.values.items (root_at p.roots.items k).index

-- Each formula has the value that it had before.
abbrev pub GivesTheSame : Program → TraceState → TraceState → Type 0
GivesTheSame p old new = (k : ℕ) → k < count_of p → last_value p new k ≡ last_value p old k

-- The state of the program of these formulas was fed these rows, and may be fed more. What it keeps is by rows that are alike to them:
-- each formula has the same values over both.
pub record Follows (p : Program) (s : TraceState) (formulas : List FormulaTree) (rows : Trace) : Type 0 where
  pub trees : List FormulaTree
  pub of : IsProgramWith p formulas trees
  pub fed : Trace
  pub alike : AreAlikeTraces p.idle fed rows
  pub all_fed : s.fed ≡ length rows
  pub all_passed : s.passed ≡ length rows
  pub keeps : (more : Trace) → KeepAll (fed ++ more) trees p.nodes.items s.states.items (length rows)
  pub gives : 0 < length rows → (more : Trace) → GiveAll (fed ++ more) trees p.nodes.items s.values.items (length rows - 1)
  pub quiet : AreQuiet p.nodes.items s.states.items s.values.items s.moving.items s.passed (s.passed + 1)
  pub still : s.still ≡ true → (k : ℕ) → k < length p.nodes.items → flag_at s.moving.items k ≡ false
  pub shown : HasShown s.glance p.nodes.items s.values.items

-- The state of the program of these formulas was fed these rows, or rows that are alike to them, and no more come.
pub record Closes (p : Program) (s : TraceState) (formulas : List FormulaTree) (rows : Trace) : Type 0 where
  pub trees : List FormulaTree
  pub of : IsProgramWith p formulas trees
  pub fed : Trace
  pub alike : AreAlikeTraces p.idle fed rows
  pub all_fed : s.fed ≡ length rows
  pub all_passed : length rows ≤ s.passed
  pub keeps : KeepAll fed trees p.nodes.items s.states.items s.passed
  pub gives : 0 < s.passed → GiveAll fed trees p.nodes.items s.values.items (s.passed - 1)
  pub quiet : AreQuiet p.nodes.items s.states.items s.values.items s.moving.items s.passed s.fed
  pub still : s.still ≡ true → (k : ℕ) → k < length p.nodes.items → flag_at s.moving.items k ≡ false
  pub shown : HasShown s.glance p.nodes.items s.values.items

-- A formula's answer to the last of these rows: the value at the position that lies its reach before, which no further rows change.
-- None where there is no such position.
abbrev pub IsFed : Option (ℕ × Verdict) → FormulaTree → Trace → Type 0
IsFed None t rows = length rows ≤ reach_of t
IsFed (Some a) t rows =
    (a.0 + 1 + reach_of t ≡ length rows) × ((more : Trace) → a.1 ≡ value_in (rows ++ more) t a.0)

-- A formula's answer where so many rows have passed beyond the trace's end: the value at the position that lies its reach before,
-- over the whole trace. None where there is no such position in the trace.
abbrev pub IsEnded : Option (ℕ × Verdict) → FormulaTree → Trace → ℕ → Type 0
IsEnded None t rows past = (length rows + past ≤ reach_of t) ⊎ (reach_of t < past)
IsEnded (Some a) t rows past =
    (a.0 + 1 + reach_of t ≡ length rows + past) × (a.0 < length rows) × (a.1 ≡ value_in rows t a.0)
