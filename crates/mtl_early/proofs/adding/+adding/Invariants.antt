use Rattle.std.proofs.Common.{◌+◌, ◌*◌}
use Rattle.mtl_formulas.specs.FormulaTree.{tree_of}
use Rattle.mtl_formulas.specs.FormulaMeasures.{node_count}
use Rattle.mtl_early.proofs.adding.+adding.Given as goal

-- Each call is of an operand, or of the same formula's operands by a function that is nearer to them.
abbrev pub decreases-add : goal.decreases-add
decreases-add l = 2 * node_count (tree_of l.formula.now)

abbrev pub decreases-add_not : goal.decreases-add_not
decreases-add_not l = 2 * node_count (tree_of l.a.now) + 1

abbrev pub decreases-add_pair : goal.decreases-add_pair
decreases-add_pair l = 2 * (node_count (tree_of l.a.now) + node_count (tree_of l.b.now)) + 1

abbrev pub decreases-add_ahead : goal.decreases-add_ahead
decreases-add_ahead l = 2 * node_count (tree_of l.a.now) + 1

abbrev pub decreases-add_until : goal.decreases-add_until
decreases-add_until l = 2 * (node_count (tree_of l.a.now) + node_count (tree_of l.b.now)) + 1
