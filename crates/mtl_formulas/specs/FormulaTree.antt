-- A formula as a tree. Bounds are counted in positions.
use Rattle.std.specs.Prelude.{ℕ}
use Rattle.mtl_formulas.specs.declared.atom.Atom.{Atom}
use Rattle.mtl_formulas.specs.declared.formula.PairKind.{PairKind}
use Rattle.mtl_formulas.specs.declared.formula.PairKind.TheVariants.{And, Or, Implies}
use Rattle.mtl_formulas.specs.declared.formula.SpanKind.{SpanKind}
use Rattle.mtl_formulas.specs.declared.formula.SpanKind.TheVariants.{F, G, O, H}
use Rattle.mtl_formulas.specs.declared.formula.LinkKind.{LinkKind}
use Rattle.mtl_formulas.specs.declared.formula.LinkKind.TheVariants.{U, S}
use Rattle.mtl_formulas.specs.declared.formula.Formula.{Formula}
use Rattle.mtl_formulas.specs.declared.formula.Root.{Root, Leaf, Negated', Pair', Span', Link'}
use Rattle.mtl_formulas.specs.declared.formula.Node.{Node}
use Rattle.mtl_formulas.specs.declared.formula.Node.TheVariants as node

-- an atom, or an operator with its bounds and operands
pub data FormulaTree : Type 0 where
  leaf : Atom → FormulaTree
  negation : FormulaTree → FormulaTree
  pair : PairKind → FormulaTree → FormulaTree → FormulaTree
  span : SpanKind → ℕ → ℕ → FormulaTree → FormulaTree
  link : LinkKind → ℕ → ℕ → FormulaTree → FormulaTree → FormulaTree

abbrev pub root_tree : Root → FormulaTree
root_tree (Leaf a) = leaf a
root_tree (Negated' p f) = negation (root_tree f)
root_tree (Pair' kind p f q g) = pair kind (root_tree f) (root_tree g)
root_tree (Span' kind l u p f) = span kind l u (root_tree f)
root_tree (Link' kind l u p f q g) = link kind l u (root_tree f) (root_tree g)

-- the formula as a tree
abbrev pub tree_of : Formula → FormulaTree
tree_of f = root_tree f.root

-- the tree that has this root and these operands
abbrev pub node_tree : Node → FormulaTree
node_tree (node.Atom a) = leaf a
node_tree (node.Not f) = negation (tree_of f.now)
node_tree (node.And f g) = pair And (tree_of f.now) (tree_of g.now)
node_tree (node.Or f g) = pair Or (tree_of f.now) (tree_of g.now)
node_tree (node.Implies f g) = pair Implies (tree_of f.now) (tree_of g.now)
node_tree (node.F l u f) = span F l u (tree_of f.now)
node_tree (node.G l u f) = span G l u (tree_of f.now)
node_tree (node.O l u f) = span O l u (tree_of f.now)
node_tree (node.H l u f) = span H l u (tree_of f.now)
node_tree (node.U l u f g) = link U l u (tree_of f.now) (tree_of g.now)
node_tree (node.S l u f g) = link S l u (tree_of f.now) (tree_of g.now)
