use Rattle.mtl_formulas.specs.FormulaTree.{tree_of}
use Rattle.mtl_formulas.specs.FormulaMeasures.{node_count}
use Rattle.mtl_monitor.proofs.idle.+is_idle.Given as goal

-- Each call is of an operand.
abbrev pub decreases-is_idle : goal.decreases-is_idle
decreases-is_idle l = node_count (tree_of l.formula.now)
