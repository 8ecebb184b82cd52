-- How a postfix form builds a tree. The trees that were built and wait for their operator stand with the last first.
use Rattle.std.specs.Prelude.{ℕ, ◌≡◌, ◌<◌, ◌≤◌, ◌/◌, List, ◌∷◌, map, reverse, ◌⊎◌, Option, Some, None, Result, Ok, Err}
use Rattle.mtl_formulas.specs.declared.formula.Formula.{Formula}
use Rattle.mtl_language.specs.declared.parsing.ParseFault.{ParseFault}
use Rattle.mtl_language.specs.declared.parsing.ParseFault.TheVariants as faults
use Rattle.mtl_language.specs.declared.part.Part.{Part}
use Rattle.mtl_language.specs.declared.postfix.PostfixItem.{PostfixItem}
use Rattle.mtl_language.specs.declared.postfix.PostfixItem.TheVariants as postfix
use Rattle.mtl_formulas.specs.FormulaTree.{FormulaTree, leaf, negation, pair, span, link, tree_of}
use Rattle.mtl_formulas.specs.FormulaMeasures.{depth_of, node_count, reach_of, HasValidParts}
use Rattle.mtl_language.specs.FormulaReading.{IsWithinLimits, IsTooLarge}

-- valid but for its depth and its reach
abbrev pub IsFit : FormulaTree → Type 0
IsFit t = HasValidParts t × (node_count t ≤ 256)

-- The part has this tree; or the tree is too deep or reaches too far.
abbrev pub MakesPart : Result Part ParseFault → FormulaTree → Type 0
MakesPart (Ok part) t = tree_of part.formula ≡ t
MakesPart (Err faults.Size) t = (64 < depth_of t) ⊎ (7200 < reach_of t)
MakesPart (Err faults.Memory) t = Unit {0}
MakesPart (Err _) t = ⊥

abbrev pub trees : List Part → List FormulaTree
trees parts = map (λ (part : Part). tree_of part.formula) (reverse parts)

abbrev pub Pushes : Result (Unit {0}) ParseFault → List FormulaTree → List FormulaTree → Type 0
Pushes (Ok _) pushed after = after ≡ pushed
Pushes (Err faults.Memory) pushed after = Unit {0}
Pushes (Err _) pushed after = ⊥

-- the trees after one more item: bounds are turned into positions; None if operands are missing
abbrev pub built : ℕ → PostfixItem → List FormulaTree → Option (List FormulaTree)
built tick (postfix.Leaf a) σ = Some (leaf a ∷ σ)
built tick postfix.Not (t ∷ σ) = Some (negation t ∷ σ)
built tick (postfix.Pair kind) (t ∷ s ∷ σ) = Some (pair kind s t ∷ σ)
built tick (postfix.Span kind l u) (t ∷ σ) = Some (span kind (l / tick) (u / tick) t ∷ σ)
built tick (postfix.Link kind l u) (t ∷ s ∷ σ) = Some (link kind (l / tick) (u / tick) s t ∷ σ)
built tick _ _ = None

-- The item finds its operands, and what it builds is fit.
abbrev pub CanAdd : Option (List FormulaTree) → Type 0
CanAdd (Some (t ∷ σ)) = IsFit t
CanAdd _ = ⊥

-- The trees are those after the item; or the new one is too deep or reaches too far.
abbrev pub Adds : Result (Unit {0}) ParseFault → Option (List FormulaTree) → List FormulaTree → Type 0
Adds (Ok _) next after = next ≡ Some after
Adds (Err faults.Size) (Some (t ∷ σ)) after = (64 < depth_of t) ⊎ (7200 < reach_of t)
Adds (Err faults.Memory) next after = Unit {0}
Adds _ _ after = ⊥

-- The formula has this tree, which is within the limits; or it is too large.
abbrev pub Builds : Result Formula ParseFault → FormulaTree → Type 0
Builds (Ok f) t = (tree_of f ≡ t) × IsWithinLimits t
Builds (Err faults.Size) t = IsTooLarge t
Builds (Err faults.Memory) t = Unit {0}
Builds (Err _) t = ⊥
