use Rattle.mtl_formulas.specs.FormulaTree.{tree_of}
use Rattle.mtl_early.proofs.Putting.{Grown-first}
use Rattle.mtl_early.proofs.sweep_program.SweepProgram.of.Goals as goal

pub returns-clause-program : goal.returns-clause-program
returns-clause-program c =
    let adds = rw c.in-Some.is at c.in_ok-built.ensures.adds in
    let g = Grown-first _ c.in-Some.built (tree_of c.args.formula.now) c.new-2.ensures.items c.new.ensures.formulas adds in
    record { formulas = g.formulas; trees = g.grown; of = g.built.of; computes = g.built.computes; root = g.last; reach = c.future_reach-reach.ensures }
