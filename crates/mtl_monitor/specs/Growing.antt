-- How a program grows: by nodes and a root that its own and the formula determine.
use Rattle.std.specs.Prelude.{◌≡◌, [], ◌∷◌, ◌++◌, max, true, ◌&&◌}
use Rattle.mtl_formulas.specs.FormulaTree.{FormulaTree}
use Rattle.mtl_formulas.specs.FormulaMeasures.{reach_of}
use Rattle.mtl_monitor.specs.declared.program.Program.{Program}
use Rattle.mtl_monitor.specs.Inner.Compiling.{compiled}
use Rattle.mtl_monitor.specs.Inner.Reading.{AreAllListed}
use Rattle.mtl_monitor.specs.Inner.Idle.{is_idle}

pub record IsEmpty (p : Program) : Type 0 where
  pub nodes : p.nodes.items ≡ []
  pub roots : p.roots.items ≡ []
  pub reach : p.reach ≡ 0
  pub idle : p.idle ≡ true

pub record GrowsBy (old new : Program) (t : FormulaTree) : Type 0 where
  pub nodes : new.nodes.items ≡ (compiled old.nodes.items t).nodes
  pub roots : new.roots.items ≡ old.roots.items ++ (compiled old.nodes.items t).operand ∷ []
  pub reach : new.reach ≡ max old.reach (reach_of t)
  pub idle : new.idle ≡ (old.idle && is_idle true t)
  pub listed : AreAllListed new.nodes.items new.atoms.items new.asked.items

-- The program was made of this formula alone.
pub record IsProgramFor (p : Program) (t : FormulaTree) : Type 0 where
  pub nodes : p.nodes.items ≡ (compiled [] t).nodes
  pub roots : p.roots.items ≡ (compiled [] t).operand ∷ []
  pub reach : p.reach ≡ reach_of t
  pub idle : p.idle ≡ is_idle true t
  pub listed : AreAllListed p.nodes.items p.atoms.items p.asked.items
