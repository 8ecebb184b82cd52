use Rattle.std.proofs.Common.{◌+◌, ◌*◌, ◌≤◌, arith}
use Rattle.std.proofs.lemmas.Nat.{mul-le}
use Rattle.mtl_formulas.specs.FormulaTree.{tree_of}
use Rattle.mtl_formulas.specs.FormulaMeasures.{window_cells}
use Rattle.mtl_formulas.proofs.Windows.{window_cells_fit}
use Rattle.mtl_formulas.proofs.measures.weight.Goals as goal

pub overflow_add-result : goal.overflow_add-result
overflow_add-result c =
    let product : c.nodes.result * (c.future_reach.result + 1) ≤ 256 * 7201 =
    mul-le c.nodes.result (c.future_reach.result + 1) 256 7201 (omega arith) (omega arith) in
    let cells : window_cells (tree_of c.args.formula.now) ≤ 256 * 7201 = window_cells_fit (tree_of c.args.formula.now) c.requires in
    omega (arith, c.windows.ensures)
