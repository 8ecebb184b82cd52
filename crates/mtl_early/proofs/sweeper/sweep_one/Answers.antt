use Rattle.std.proofs.Common.{◌≡◌, ◌≤◌, [], ◌∷◌, ◌++◌, length, arith}
use Rattle.std.proofs.lemmas.List.{length_push}
use Rattle.mtl_formulas.specs.declared.formula.LinkKind.TheVariants.{U}
use Rattle.mtl_formulas.specs.FormulaTree.{link}
use Rattle.mtl_formulas.specs.FormulaMeasures.{reach_of}
use Rattle.mtl_monitor.specs.Following.{formula_at}
use Rattle.mtl_formulas.specs.Traces.{value_in}
use Rattle.mtl_early.specs.Inner.Cells.{AreRight}
use Rattle.mtl_early.specs.Inner.Nodes.{tree_at}
use Rattle.mtl_early.proofs.sweeper.sweep_one.Goals as goal

pub returns-in-Now-clause-right : goal.returns-in-Now-clause-right
returns-in-Now-clause-right c = λ formulas trees rows row t reads computes few operands own.
    let fit = rw c.in-Now.is at c.requires.fit in
    let is : (formula_at formulas c.in-Now.formula ≡ t) × (reach_of t ≡ 0) = rw c.in-Now.is at computes in
    let flat : reach_of (formula_at formulas c.in-Now.formula) ≡ 0 = rw is.0 is.1 in
    let value : c.value_now.result ≡ value_in (rows ++ row ∷ []) t (length rows) = rw is.0 at (reads c.in-Now.formula fit flat c.value_now.result c.value_now.ensures) in
    rw (← c.cells_of-at.ensures) (c.sweep_now.ensures.right rows row t is.1 few (rw (← c.cells_of-at.ensures) at own) value)

pub returns-in-Until-clause-right : goal.returns-in-Until-clause-right
returns-in-Until-clause-right c = λ formulas trees rows row t follows computes few operands own.
    let fit = rw c.in-Until.is at c.requires.fit in
    let is : t ≡ link U c.in-Until.lower c.in-Until.upper (tree_at trees c.in-Until.a) (tree_at trees c.in-Until.b) = rw c.in-Until.is at computes in
    let many : c.args.size ≤ length (rows ++ row ∷ []) = omega (arith, few, length_push rows row) in
    let first : AreRight c.args.cells.now c.cells_of-in-Until.result c.args.size (rows ++ row ∷ []) (tree_at trees c.in-Until.a) = rw c.cells_of-in-Until.ensures (operands c.in-Until.a fit.0) in
    let second : AreRight c.args.cells.now c.cells_of-in-Until-2.result c.args.size (rows ++ row ∷ []) (tree_at trees c.in-Until.b) = rw c.cells_of-in-Until-2.ensures (operands c.in-Until.b fit.1) in
    rw (is, ← c.cells_of-at.ensures) (c.sweep_until.ensures.right (rows ++ row ∷ []) (tree_at trees c.in-Until.a) (tree_at trees c.in-Until.b) many first second)
