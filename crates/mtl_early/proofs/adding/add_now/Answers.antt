use Rattle.std.proofs.Common.{refl}
use Rattle.mtl_formulas.specs.FormulaTree.{tree_of}
use Rattle.mtl_early.proofs.Putting.{Adds-now}
use Rattle.mtl_early.proofs.adding.add_now.Goals as goal

pub returns : goal.returns
returns c = Adds-now c.args.building _ c.in_ok-put.field-0 (tree_of c.args.formula.now) c.requires.now c.in_ok-program.ensures.formulas c.in_ok-program.ensures.count refl refl
    c.formula_count-index.result c.formula_count-index.ensures.count c.in_ok-put.ensures
