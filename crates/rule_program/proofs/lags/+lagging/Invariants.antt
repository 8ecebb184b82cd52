use Rattle.std.proofs.Common.{◌+◌, ◌*◌}
use Rattle.mtl_formulas.specs.FormulaTree.{tree_of}
use Rattle.mtl_formulas.specs.FormulaMeasures.{node_count}
use Rattle.rule_program.proofs.lags.+lagging.Given as goal

-- Each call is of an operand, or of the same formula's operands by a function that is nearer to them.
abbrev pub decreases-lags_of : goal.decreases-lags_of
decreases-lags_of l = 2 * node_count (tree_of l.formula.now)

abbrev pub decreases-not_lags : goal.decreases-not_lags
decreases-not_lags l = 2 * node_count (tree_of l.a.now) + 1

abbrev pub decreases-pair_lags : goal.decreases-pair_lags
decreases-pair_lags l = 2 * (node_count (tree_of l.a.now) + node_count (tree_of l.b.now)) + 1

abbrev pub decreases-span_lags : goal.decreases-span_lags
decreases-span_lags l = 2 * node_count (tree_of l.a.now) + 1

abbrev pub decreases-link_lags : goal.decreases-link_lags
decreases-link_lags l = 2 * (node_count (tree_of l.a.now) + node_count (tree_of l.b.now)) + 1
