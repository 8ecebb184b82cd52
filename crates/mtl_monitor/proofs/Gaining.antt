-- How the nodes of a formula are put one after the other.
use Rattle.std.specs.Prelude.{◌≡◌, ℕ, ◌<◌, ◌≤◌, List, length}
use Rattle.mtl_formulas.specs.declared.formula.PairKind.{PairKind}
use Rattle.mtl_formulas.specs.declared.formula.SpanKind.{SpanKind}
use Rattle.mtl_monitor.specs.declared.building.Operand.{Operand}
use Rattle.mtl_formulas.specs.declared.formula.LinkKind.TheVariants.{U, S}
use Rattle.mtl_formulas.specs.FormulaTree.{FormulaTree, pair, span, link}
use Rattle.mtl_monitor.specs.declared.node.Operator.{Operator}
use Rattle.mtl_monitor.specs.declared.node.ProgramNode.{ProgramNode}
use Rattle.mtl_monitor.specs.Inner.Standing.{tree_at, node_at, late_at, Computes, Sound, AllValid, AllBelow}

-- the trees once nodes were put: the old ones stay, and the node at this index computes t
pub record Grown (old new : List ProgramNode) (trees : List FormulaTree) (k : ℕ) (t : FormulaTree) : Type 0 where
  pub grown : List FormulaTree
  pub sound : Sound new grown
  pub same : (j : ℕ) → j < length old → tree_at grown j ≡ tree_at trees j
  pub tree : tree_at grown k ≡ t

-- Nodes were put after the old ones, which stay, and the one at this index is so late. It computes each tree that is meant.
pub record Gains (old new : List ProgramNode) (k late : ℕ) (IsMeant : List FormulaTree → FormulaTree → Type 0) : Type 0 where
  pub longer : length old ≤ length new
  pub same : (j : ℕ) → j < length old → node_at new j ≡ node_at old j
  pub inside : k < length new
  pub lateness : late_at new k ≡ late
  pub valid : AllValid old → AllValid new
  pub below : AllBelow old → AllBelow new
  pub trees : (trees : List FormulaTree) → Sound old trees → (t : FormulaTree) → IsMeant trees t → Grown old new trees k t

-- the tree t, whatever the nodes are
abbrev pub IsTree : FormulaTree → List FormulaTree → FormulaTree → Type 0
IsTree t trees s = s ≡ t

-- the tree of the node at a index
abbrev pub IsTreeAt : ℕ → List FormulaTree → FormulaTree → Type 0
IsTreeAt a trees s = s ≡ tree_at trees a

-- what an operator computes of its operands
abbrev pub IsComputed : List ProgramNode → Operator → ℕ → List FormulaTree → FormulaTree → Type 0
IsComputed nodes operator late trees s = Computes nodes trees operator late s

-- a node that is so late
pub record IsOperand (nodes : List ProgramNode) (o : Operand) : Type 0 where
  pub inside : o.index < length nodes
  pub lateness : late_at nodes o.index ≡ o.late

abbrev pub IsPairAt : PairKind → ℕ → ℕ → List FormulaTree → FormulaTree → Type 0
IsPairAt kind a b trees t = t ≡ pair kind (tree_at trees a) (tree_at trees b)

abbrev pub IsSpanAt : SpanKind → ℕ → ℕ → ℕ → List FormulaTree → FormulaTree → Type 0
IsSpanAt kind l u a trees t = t ≡ span kind l u (tree_at trees a)

abbrev pub IsSinceAt : ℕ → ℕ → ℕ → ℕ → List FormulaTree → FormulaTree → Type 0
IsSinceAt l u a b trees t = t ≡ link S l u (tree_at trees a) (tree_at trees b)

abbrev pub IsUntilAt : ℕ → ℕ → ℕ → ℕ → List FormulaTree → FormulaTree → Type 0
IsUntilAt l u a b trees t = t ≡ link U l u (tree_at trees a) (tree_at trees b)
