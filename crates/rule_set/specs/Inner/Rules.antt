-- The model of a list of rules.
use Rattle.std.specs.Prelude.{◌≡◌, List, [], ◌∷◌, ◌++◌, map, Result, Ok, Err}
use Rattle.out_of_memory.specs.declared.Memory.{Memory}
use Rattle.mtl_formulas.specs.FormulaTree.{tree_of}
use Rattle.rule_set.specs.declared.rule.Rule.{Rule}
use Rattle.rule_set.specs.NamedTrees.{NamedTree, rule_named}

abbrev pub named_tree : Rule → NamedTree
named_tree rule = rule_named rule.name (tree_of rule.formula)

abbrev pub named_trees : List Rule → List NamedTree
named_trees rules = map named_tree rules

-- The new rule follows the earlier ones.
abbrev pub IsPut : List Rule → Result Rule Memory → List Rule → Type 0
IsPut before (Ok rule) after = after ≡ before ++ rule ∷ []
IsPut before (Err fault) after = ⊥
