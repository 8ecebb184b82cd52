-- The windows of a valid formula are small.
use Rattle.std.proofs.Common.{◌*◌, ◌≤◌, arith}
use Rattle.mtl_formulas.specs.FormulaTree.{FormulaTree, leaf, negation, pair, span, link}
use Rattle.mtl_formulas.specs.FormulaMeasures.{IsValid, HasValidParts, node_count, window_cells}

window_cells-small : (t : FormulaTree) → HasValidParts t → window_cells t ≤ node_count t * 7201
window_cells-small (leaf a) v = omega arith
window_cells-small (negation t) v = omega (arith, window_cells-small t v)
window_cells-small (pair kind s t) v = omega (arith, window_cells-small s v.0, window_cells-small t v.1)
window_cells-small (span kind l u t) v = omega (arith, window_cells-small t v.2)
window_cells-small (link kind l u s t) v = omega (arith, window_cells-small s v.2, window_cells-small t v.3)

pub window_cells_fit : (t : FormulaTree) → IsValid t → window_cells t ≤ 256 * 7201
window_cells_fit t v = omega (arith, window_cells-small t v.parts)
