use Rattle.mtl_formulas.specs.FormulaTree.{tree_of}
use Rattle.early_monitor.proofs.early_monitor.EarlyMonitor.new.Goals as goal

pub returns-clause-at : goal.returns-clause-at
returns-clause-at c =
    c.in_ok-state.ensures.at (tree_of c.args.formula.now) c.in_ok-program.ensures
