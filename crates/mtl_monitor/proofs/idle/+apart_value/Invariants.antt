use Rattle.mtl_formulas.specs.FormulaTree.{tree_of}
use Rattle.mtl_formulas.specs.FormulaMeasures.{node_count}
use Rattle.mtl_monitor.proofs.idle.+apart_value.Given as goal

-- Each call is of an operand.
abbrev pub decreases-apart_value : goal.decreases-apart_value
decreases-apart_value l = node_count (tree_of l.formula.now)
