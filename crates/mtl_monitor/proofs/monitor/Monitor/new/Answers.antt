use Rattle.std.proofs.Common.{[], ◌∷◌}
use Rattle.mtl_formulas.specs.FormulaTree.{tree_of}
use Rattle.mtl_monitor.proofs.monitor.Monitor.new.Goals as goal

pub returns-clause-follows : goal.returns-clause-follows
returns-clause-follows c = c.in_ok-state.ensures.follows (tree_of c.args.formula.now ∷ []) (c.in_ok-program.ensures.formulas [] c.new.ensures.formulas)
