use Rattle.std.proofs.Common.{◌+◌, ◌*◌}
use Rattle.mtl_formulas.specs.FormulaTree.{tree_of}
use Rattle.mtl_formulas.specs.FormulaMeasures.{node_count}
use Rattle.mtl_language.proofs.printing.+printing.Given as goal

-- Each call is of an operand, or of the same formula's operands by a function that is nearer to them.
abbrev pub decreases-write_formula : goal.decreases-write_formula
decreases-write_formula l = 2 * node_count (tree_of l.formula.now)

abbrev pub decreases-write_pair : goal.decreases-write_pair
decreases-write_pair l = 2 * (node_count (tree_of l.a.now) + node_count (tree_of l.b.now)) + 1

abbrev pub decreases-write_span : goal.decreases-write_span
decreases-write_span l = 2 * node_count (tree_of l.a.now) + 1

abbrev pub decreases-write_link : goal.decreases-write_link
decreases-write_link l = 2 * (node_count (tree_of l.a.now) + node_count (tree_of l.b.now)) + 1
