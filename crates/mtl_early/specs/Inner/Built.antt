-- How the nodes of a formula are built, one after the other.
use Rattle.std.specs.Prelude.{◌≡◌, ℕ, ◌+◌, ◌*◌, ◌-◌, ◌<◌, ◌≤◌, List, [], ◌∷◌, ◌++◌, length}
use Rattle.mtl_formulas.specs.FormulaTree.{FormulaTree}
use Rattle.mtl_formulas.specs.FormulaMeasures.{node_count}
use Rattle.mtl_monitor.specs.Following.{IsProgramOf}
use Rattle.mtl_early.specs.declared.building.Building.{Building}
use Rattle.mtl_early.specs.declared.sweeper.Sweep.{Sweep}
use Rattle.mtl_early.specs.Sweepable.{IsSweepable}
use Rattle.mtl_early.specs.Inner.Nodes.{AllCompute, tree_at}

-- the index of the last node
abbrev pub last_of : Building → ℕ
last_of b = length b.nodes.items - 1

-- A node was put behind the others.
pub record Puts (old new : Building) (sweep : Sweep) : Type 0 where
  pub nodes : new.nodes.items ≡ old.nodes.items ++ (record { at = length old.nodes.items * old.stride; sweep = sweep }) ∷ []
  pub program : new.program ≡ old.program
  pub stride : new.stride ≡ old.stride

-- The program is one of these formulas, and the nodes compute these trees.
pub record IsBuilt (b : Building) (formulas trees : List FormulaTree) : Type 0 where
  pub of : IsProgramOf b.program formulas
  pub size : length trees ≡ length b.nodes.items
  pub computes : AllCompute formulas trees b.nodes.items

-- The nodes compute these trees, and one more after them.
pub record Grown (b : Building) (trees : List FormulaTree) (t : FormulaTree) : Type 0 where
  pub formulas : List FormulaTree
  pub grown : List FormulaTree
  pub built : IsBuilt b formulas grown
  pub same : (k : ℕ) → k < length trees → tree_at grown k ≡ tree_at trees k
  pub last : tree_at grown (last_of b) ≡ t

-- Nodes were added, and the last of them computes the formula.
pub record Adds (old new : Building) (t : FormulaTree) : Type 0 where
  pub longer : length old.nodes.items < length new.nodes.items
  pub few : length new.nodes.items ≤ length old.nodes.items + node_count t
  pub stride : new.stride ≡ old.stride
  pub sweepable : IsSweepable t
  pub trees : (formulas trees : List FormulaTree) → IsBuilt old formulas trees → Grown new trees t
