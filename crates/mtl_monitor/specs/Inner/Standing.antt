-- What the nodes of a program compute, and what they keep once so many rows of a trace have passed.
use Rattle.std.specs.Prelude.{◌≡◌, ℕ, zero, suc, ◌+◌, ◌-◌, ◌<◌, ◌≤◌, nat_lt, List, [], ◌∷◌, length, get_or, slice_get}
use Rattle.std.specs.Coded.{le_prop}
use Rattle.circular_buffer.specs.Buffer.{Buffer}
use Rattle.mtl_formulas.specs.declared.atom.Atom.{Atom}
use Rattle.mtl_formulas.specs.declared.atom.Atom.TheVariants.{Always, Age, Clear, Close}
use Rattle.mtl_formulas.specs.declared.verdict.Verdict.{Verdict}
use Rattle.mtl_formulas.specs.declared.formula.SpanKind.{SpanKind}
use Rattle.mtl_formulas.specs.declared.formula.SpanKind.TheVariants.{F, G, O, H}
use Rattle.mtl_formulas.specs.declared.formula.LinkKind.TheVariants.{U, S}
use Rattle.mtl_formulas.specs.FormulaTree.{link, FormulaTree, leaf, negation, pair, span}
use Rattle.mtl_formulas.specs.VerdictOrder.{turned_round}
use Rattle.mtl_formulas.specs.FormulaMeasures.{IsValidAtom}
use Rattle.mtl_formulas.specs.FormulaValue.{answer_at}
use Rattle.mtl_formulas.specs.Traces.{Trace, value_in}
use Rattle.mtl_monitor.specs.declared.building.Operand.{Operand}
use Rattle.mtl_monitor.specs.declared.node.Operator.{Operator}
use Rattle.mtl_monitor.specs.declared.node.Operator.TheVariants as op
use Rattle.mtl_monitor.specs.declared.node.ProgramNode.{ProgramNode}
use Rattle.mtl_monitor.specs.declared.node.Kept.{Kept}
use Rattle.mtl_monitor.specs.declared.node.Kept.TheVariants as kinds
use Rattle.mtl_monitor.specs.Inner.Countdown.{Lasts, held_at}
use Rattle.mtl_monitor.specs.Inner.Lookahead.{Reads}
use Rattle.mtl_monitor.specs.Inner.Steps.{value_at, sensed, HasValidAtom}

abbrev pub tree_at : List FormulaTree → ℕ → FormulaTree
tree_at trees k = get_or trees k (leaf Always)

abbrev pub no_node : ProgramNode
no_node = record { operator = op.Atom Always; late = 0 }

abbrev pub node_at : List ProgramNode → ℕ → ProgramNode
node_at nodes k = get_or nodes k no_node

abbrev pub late_at : List ProgramNode → ℕ → ℕ
late_at nodes k = (node_at nodes k).late

-- the values at so many positions from start on
abbrev pub run : (ℕ → Verdict) → ℕ → ℕ → List Verdict
run f start zero = []
run f start (suc count) = f start ∷ run f (start + 1) count

-- The ring has the last of the first n values, as many as it has room for.
pub record Holds (f : ℕ → Verdict) (b : Buffer Verdict) (cells n : ℕ) : Type 0 where
  pub room : b.capacity ≡ cells
  pub last : b.items ≡ run f (n - cells) (n - (n - cells))

-- how late an operator over l to u is whose operand is so late
abbrev pub IsTimed : SpanKind → ℕ → ℕ → ℕ → ℕ → Type 0
IsTimed F l u operand late = late ≡ operand + u
IsTimed G l u operand late = late ≡ operand + u
IsTimed O l u operand late = operand ≡ late + l
IsTimed H l u operand late = operand ≡ late + l

pub record IsWindow (kind : SpanKind) (s t : FormulaTree) (width operand late : ℕ) : Type 0 where
  pub lower : ℕ
  pub upper : ℕ
  pub ordered : lower ≤ upper
  pub tree : t ≡ span kind lower upper s
  pub timed : IsTimed kind lower upper operand late
  pub wide : width ≡ (upper + 1) - lower

pub record IsSince (s t whole : FormulaTree) (width lower operand late : ℕ) : Type 0 where
  pub upper : ℕ
  pub ordered : lower ≤ upper
  pub tree : whole ≡ link S lower upper s t
  pub delayed : operand ≡ late + lower
  pub wide : width ≡ (upper + 1) - lower

pub record IsUntil (s t whole : FormulaTree) (operand full lower late : ℕ) : Type 0 where
  pub upper : ℕ
  pub ordered : lower ≤ upper
  pub tree : whole ≡ link U lower upper s t
  pub timed : late ≡ operand + upper
  pub wide : full ≡ operand + ((upper + 1) - lower)

-- The operand before the window is the first one, and late by the window's width more, where there is any position before it.
pub record IsBehind (nodes : List ProgramNode) (trees : List FormulaTree) (a behind lower late : ℕ) : Type 0 where
  pub tree : 0 < lower → tree_at trees behind ≡ tree_at trees a
  pub lateness : 0 < lower → late_at nodes behind ≡ late

-- The operator computes the formula t, so many rows late, if its operands compute theirs.
abbrev pub Computes : List ProgramNode → List FormulaTree → Operator → ℕ → FormulaTree → Type 0
Computes nodes trees (op.Atom a) late t = (t ≡ leaf a) × (late ≡ 0)
Computes nodes trees (op.Not a) late t = (t ≡ negation (tree_at trees a)) × (late_at nodes a ≡ late)
Computes nodes trees (op.Pair kind a b) late t =
    (t ≡ pair kind (tree_at trees a) (tree_at trees b)) × (late_at nodes a ≡ late) × (late_at nodes b ≡ late)
Computes nodes trees (op.Late cells from a) late t =
    (t ≡ tree_at trees a) × (late_at nodes a ≡ from) × (late ≡ from + cells)
Computes nodes trees (op.Window kind width from a) late t =
    (late_at nodes a ≡ from) × IsWindow kind (tree_at trees a) t width from late
Computes nodes trees (op.Since width lower from a b) late t =
    (late_at nodes a ≡ late) × (late_at nodes b ≡ from) × IsSince (tree_at trees a) (tree_at trees b) t width lower from late
Computes nodes trees (op.Until from full lower a behind b) late t =
    (late_at nodes a ≡ from) × (late_at nodes b ≡ from) × IsBehind nodes trees a behind lower full
    × IsUntil (tree_at trees a) (tree_at trees b) t from full lower late

-- Each operand of an operator is so.
abbrev pub AllOperands : (ℕ → Type 0) → Operator → Type 0
AllOperands Is (op.Atom a) = Unit {0}
AllOperands Is (op.Not a) = Is a
AllOperands Is (op.Pair kind a b) = Is a × Is b
AllOperands Is (op.Late cells from a) = Is a
AllOperands Is (op.Window kind width from a) = Is a
AllOperands Is (op.Since width lower from a b) = Is a × Is b
AllOperands Is (op.Until from full lower a behind b) = Is a × Is behind × Is b

-- The operands of an operator stand before an index.
abbrev pub OperandsBelow : ℕ → Operator → Type 0
OperandsBelow k o = AllOperands (λ a. a < k) o

-- what an operator keeps once n rows of the trace have passed
abbrev pub Keeps : Trace → List FormulaTree → Operator → ℕ → Kept → ℕ → Type 0
Keeps trace trees (op.Late cells from a) late (kinds.Ring d) n = Holds (value_in trace (tree_at trees a)) d.ring cells (n - from)
Keeps trace trees (op.Late cells from a) late _ n = ⊥
Keeps trace trees (op.Window kind width from a) late (kinds.Window s) n =
    Lasts (λ k. sensed kind (value_in trace (tree_at trees a) k)) s width (n - from)
Keeps trace trees (op.Window kind width from a) late _ n = ⊥
Keeps trace trees (op.Since width lower from a b) late (kinds.Since hits bars) n =
    Lasts (held_at (value_in trace (tree_at trees a)) (value_in trace (tree_at trees b)) (n - late)) hits width (n - from)
    × Lasts (λ k. turned_round (value_in trace (tree_at trees a) k)) bars lower (n - late)
Keeps trace trees (op.Since width lower from a b) late _ n = ⊥
Keeps trace trees (op.Until from full lower a behind b) late (kinds.Until s) n =
    Reads (value_in trace (tree_at trees a)) (value_in trace (tree_at trees b)) s.window (full - from) (n - from)
    × Lasts (λ k. turned_round (value_in trace (tree_at trees a) k)) s.bars lower (n - full)
Keeps trace trees (op.Until from full lower a behind b) late _ n = ⊥
Keeps trace trees _ late _ n = Unit {0}

-- The value at row i is that of a formula so many positions back.
abbrev pub IsGiven : Trace → FormulaTree → ℕ → ℕ → Verdict → Type 0
IsGiven trace t late i v = late ≤ i → v ≡ value_in trace t (i - late)

-- The row answers as the trace does at i.
abbrev pub IsRow : Trace → (Atom → Verdict) → ℕ → Type 0
IsRow trace row i = (a : Atom) → row a ≡ answer_at (λ r. r) trace a (slice_get trace i)

-- Of the positions up to i, those before `end` are the trace's.
abbrev pub EndsAt : Trace → ℕ → ℕ → Type 0
EndsAt trace i end = (j : ℕ) → j ≤ i → nat_lt j end ≡ nat_lt j (length trace)

abbrev pub state_at : List Kept → ℕ → Kept
state_at states k = get_or states k kinds.Plain

-- Each node computes the tree at its index, from nodes before it.
pub record IsProgram (nodes : List ProgramNode) (trees : List FormulaTree) : Type 0 where
  pub computes : (k : ℕ) → k < length nodes → Computes nodes trees (node_at nodes k).operator (late_at nodes k) (tree_at trees k)
  pub below : (k : ℕ) → k < length nodes → OperandsBelow k (node_at nodes k).operator

-- There is a tree for each node, and no other.
pub record Sound (nodes : List ProgramNode) (trees : List FormulaTree) : Type 0 where
  pub program : IsProgram nodes trees
  pub size : length trees ≡ length nodes

-- the node that computes a formula
abbrev pub root_at : List Operand → ℕ → Operand
root_at roots k = get_or roots k (record { index = 0; late = 0 })

-- The roots stand among so many nodes, and none is later than a formula may reach.
abbrev pub AllInside : ℕ → List Operand → Type 0
AllInside n roots = (k : ℕ) → k < length roots → (((root_at roots k).index < n) × ((root_at roots k).late ≤ 7200))

pub AllInside-prop : (n : ℕ) (roots : List Operand) → IsProp (AllInside n roots)
AllInside-prop n roots = hlevel le_prop

-- Row i has passed the nodes before index k, and not yet those from there on.
pub record Midway (trace : Trace) (trees : List FormulaTree) (nodes : List ProgramNode) (states : List Kept) (values : List Verdict) (i k : ℕ) : Type 0 where
  pub passed : (j : ℕ) → j < k → Keeps trace trees (node_at nodes j).operator (late_at nodes j) (state_at states j) (i + 1)
  pub gave : (j : ℕ) → j < k → IsGiven trace (tree_at trees j) (late_at nodes j) i (value_at values j)
  pub waiting : (j : ℕ) → k ≤ j → j < length nodes → Keeps trace trees (node_at nodes j).operator (late_at nodes j) (state_at states j) i

-- The nodes keep what they should once n rows have passed.
pub record KeepAll (trace : Trace) (trees : List FormulaTree) (nodes : List ProgramNode) (states : List Kept) (n : ℕ) : Type 0 where
  pub each : (j : ℕ) → j < length nodes → Keeps trace trees (node_at nodes j).operator (late_at nodes j) (state_at states j) n

-- The nodes gave what they should at row i.
pub record GiveAll (trace : Trace) (trees : List FormulaTree) (nodes : List ProgramNode) (values : List Verdict) (i : ℕ) : Type 0 where
  pub each : (j : ℕ) → j < length nodes → IsGiven trace (tree_at trees j) (late_at nodes j) i (value_at values j)

-- what the pass of row i leaves
pub record Passes (nodes : List ProgramNode) (states after : List Kept) (values : List Verdict) (r : Atom → Verdict) (i end : ℕ) : Type 0 where
  pub kept : (trace : Trace) (trees : List FormulaTree) → IsProgram nodes trees → IsRow trace r i → EndsAt trace i end
      → KeepAll trace trees nodes states i → KeepAll trace trees nodes after (i + 1)
  pub given : (trace : Trace) (trees : List FormulaTree) → IsProgram nodes trees → IsRow trace r i → EndsAt trace i end
      → KeepAll trace trees nodes states i → GiveAll trace trees nodes values i

-- Each atom of the nodes is valid.
abbrev pub AllValid : List ProgramNode → Type 0
AllValid nodes = (k : ℕ) → k < length nodes → HasValidAtom (node_at nodes k).operator

-- The operands of each node stand before it.
abbrev pub AllBelow : List ProgramNode → Type 0
AllBelow nodes = (k : ℕ) → k < length nodes → OperandsBelow k (node_at nodes k).operator

OperandsBelow-prop : (k : ℕ) (o : Operator) → IsProp (OperandsBelow k o)
OperandsBelow-prop k (op.Atom a) = hlevel
OperandsBelow-prop k (op.Not a) = hlevel le_prop
OperandsBelow-prop k (op.Pair kind a b) = hlevel le_prop
OperandsBelow-prop k (op.Late cells from a) = hlevel le_prop
OperandsBelow-prop k (op.Window kind width from a) = hlevel le_prop
OperandsBelow-prop k (op.Since width lower from a b) = hlevel le_prop
OperandsBelow-prop k (op.Until from full lower a behind b) = hlevel le_prop

pub AllBelow-prop : (nodes : List ProgramNode) → IsProp (AllBelow nodes)
AllBelow-prop nodes = hlevel OperandsBelow-prop

pub IsValidAtom-prop : (a : Atom) → IsProp (IsValidAtom a)
IsValidAtom-prop (Age seconds) = le_prop
IsValidAtom-prop (Clear metres) = le_prop
IsValidAtom-prop (Close metres) = le_prop
IsValidAtom-prop _ = hlevel

HasValidAtom-prop : (o : Operator) → IsProp (HasValidAtom o)
HasValidAtom-prop (op.Atom a) = IsValidAtom-prop a
HasValidAtom-prop _ = hlevel

pub AllValid-prop : (nodes : List ProgramNode) → IsProp (AllValid nodes)
AllValid-prop nodes = hlevel HasValidAtom-prop
