-- Nodes that compute formulas by sweeps, and their cells.
use Rattle.std.specs.Prelude.{◌≡◌, ℕ, ◌+◌, ◌<◌, ◌≤◌, List, length, get_or}
use Rattle.std.specs.Coded.{le_prop}
use Rattle.mtl_formulas.specs.declared.atom.Atom.TheVariants.{Always}
use Rattle.mtl_formulas.specs.declared.verdict.Verdict.{Verdict}
use Rattle.mtl_formulas.specs.declared.formula.LinkKind.TheVariants.{U}
use Rattle.mtl_formulas.specs.FormulaTree.{FormulaTree, leaf, negation, pair, span, link}
use Rattle.mtl_formulas.specs.FormulaMeasures.{reach_of}
use Rattle.mtl_formulas.specs.Traces.{Trace}
use Rattle.mtl_monitor.specs.Following.{formula_at}
use Rattle.mtl_early.specs.declared.sweeper.Sweep.{Sweep}
use Rattle.mtl_early.specs.declared.sweeper.Sweep.TheVariants as op
use Rattle.mtl_early.specs.declared.sweeper.SweepNode.{SweepNode}
use Rattle.mtl_early.specs.Inner.Cells.{AreRight, ahead_kind}

abbrev pub tree_at : List FormulaTree → ℕ → FormulaTree
tree_at trees k = get_or trees k (leaf Always)

abbrev pub no_node : SweepNode
no_node = record { at = 0; sweep = op.Now 0 }

abbrev pub node_at : List SweepNode → ℕ → SweepNode
node_at nodes k = get_or nodes k no_node

-- where the cells of a node begin
abbrev pub cells_of : List SweepNode → ℕ → ℕ
cells_of nodes k = (node_at nodes k).at

-- The operands of the node with this index stand before it, and its bounds are in order.
abbrev pub HasFit : ℕ → ℕ → Sweep → Type 0
HasFit count k (op.Now r) = r < count
HasFit count k (op.Not a) = a < k
HasFit count k (op.Pair kind a b) = (a < k) × (b < k)
HasFit count k (op.Ahead turned l u a) = (a < k) × (l ≤ u) × (u ≤ 7200)
HasFit count k (op.Until l u a b) = (a < k) × (b < k) × (l ≤ u) × (u ≤ 7200)

abbrev pub AllFit : ℕ → List SweepNode → Type 0
AllFit count nodes = (k : ℕ) → k < length nodes → HasFit count k (node_at nodes k).sweep

-- The cells of the nodes lie one behind the other, so many for each.
pub record AreLaidOut (nodes : List SweepNode) (stride total : ℕ) : Type 0 where
  pub apart : (j k : ℕ) → j < k → k < length nodes → cells_of nodes j + stride ≤ cells_of nodes k
  pub inside : (k : ℕ) → k < length nodes → cells_of nodes k + stride ≤ total

-- The node computes the formula, if its operands compute theirs.
abbrev pub Computes : List FormulaTree → List FormulaTree → Sweep → FormulaTree → Type 0
Computes formulas trees (op.Now r) t = (formula_at formulas r ≡ t) × (reach_of t ≡ 0)
Computes formulas trees (op.Not a) t = t ≡ negation (tree_at trees a)
Computes formulas trees (op.Pair kind a b) t = t ≡ pair kind (tree_at trees a) (tree_at trees b)
Computes formulas trees (op.Ahead turned l u a) t = t ≡ span (ahead_kind turned) l u (tree_at trees a)
Computes formulas trees (op.Until l u a b) t = t ≡ link U l u (tree_at trees a) (tree_at trees b)

abbrev pub AllCompute : List FormulaTree → List FormulaTree → List SweepNode → Type 0
AllCompute formulas trees nodes = (k : ℕ) → k < length nodes → Computes formulas trees (node_at nodes k).sweep (tree_at trees k)

-- The first so many nodes hold the values of their formulas.
abbrev pub OperandsRight : List SweepNode → List FormulaTree → List Verdict → ℕ → ℕ → Trace → Type 0
OperandsRight nodes trees cells k size rows = (j : ℕ) → j < k → AreRight cells (cells_of nodes j) size rows (tree_at trees j)

abbrev pub AllRight : List SweepNode → List FormulaTree → List Verdict → ℕ → Trace → Type 0
AllRight nodes trees cells size rows = (j : ℕ) → j < length nodes → AreRight cells (cells_of nodes j) size rows (tree_at trees j)

HasFit-prop : (count k : ℕ) (s : Sweep) → IsProp (HasFit count k s)
HasFit-prop count k (op.Now r) = hlevel le_prop
HasFit-prop count k (op.Not a) = hlevel le_prop
HasFit-prop count k (op.Pair kind a b) = hlevel le_prop
HasFit-prop count k (op.Ahead turned l u a) = hlevel le_prop
HasFit-prop count k (op.Until l u a b) = hlevel le_prop

pub AllFit-prop : (count : ℕ) (nodes : List SweepNode) → IsProp (AllFit count nodes)
AllFit-prop count nodes = hlevel HasFit-prop

pub AreLaidOut-prop : (nodes : List SweepNode) (stride total : ℕ) → IsProp (AreLaidOut nodes stride total)
AreLaidOut-prop nodes stride total = hlevel le_prop
