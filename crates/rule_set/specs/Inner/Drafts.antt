-- A rule in construction, small enough that its nodes bound its depth.
use Rattle.std.specs.Prelude.{ℕ, ◌≡◌, ◌≤◌}
use Rattle.std.specs.Coded.{le_prop}
use Rattle.mtl_formulas.specs.declared.formula.Formula.{Formula}
use Rattle.mtl_formulas.specs.FormulaTree.{FormulaTree, tree_of}
use Rattle.mtl_formulas.specs.FormulaMeasures.{node_count, reach_of, HasValidParts}
use Rattle.rule_set.specs.Inner.Valid.{valid_parts_prop}

pub record IsDraft (t : FormulaTree) : Type 0 where
  pub parts : HasValidParts t
  pub nodes : node_count t ≤ 64
  pub reach : reach_of t ≤ 7200

pub draft_prop : (t : FormulaTree) → IsProp (IsDraft t)
draft_prop t = hlevel (le_prop, valid_parts_prop t)

-- the formula is this tree, of at most this many nodes
pub record IsMade (f : Formula) (t : FormulaTree) (most : ℕ) : Type 0 where
  pub tree : tree_of f ≡ t
  pub nodes : node_count (tree_of f) ≤ most
