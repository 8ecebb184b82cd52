use Rattle.std.proofs.Common.{◌≡◌, [], ◌∷◌, Some, drop}
use Rattle.mtl_formulas.specs.FormulaTree.{FormulaTree}
use Rattle.mtl_language.specs.FormulaReading.{in_positions}
use Rattle.mtl_language.specs.Inner.Postfix.{postfix_of}
use Rattle.mtl_language.specs.Inner.Building.{trees}
use Rattle.mtl_language.proofs.Trees.{all_built}
use Rattle.mtl_language.proofs.building.build.Given as goal

-- the items that are left make the tree of what is built
abbrev pub invariant-loop-item : goal.invariant-loop-item
invariant-loop-item l =
    (t : FormulaTree) → l.postfix ≡ postfix_of t → all_built l.tick (drop l.item-index l.postfix) (trees l.parts.items) ≡ Some (in_positions l.tick t ∷ [])
