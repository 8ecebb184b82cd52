use Rattle.std.proofs.Common.{◌≡◌, rules}
use Rattle.mtl_formulas.specs.FormulaTree.{tree_of}
use Rattle.mtl_language.specs.FormulaText.{text_of}
use Rattle.mtl_language.proofs.Reprinted.{read_again}
use Rattle.mtl_language.proofs.printing.print.Goals as goal

pub returns-in-Ok-clause-again : goal.returns-in-Ok-clause-again
returns-in-Ok-clause-again c text h =
    let t = tree_of c.args.formula.now in
    let is : c.into_bytes.result.items ≡ text_of c.args.tick t = search rules in
    rw is (read_again c.args.tick t text c.requires.tick.0 h.0, h.1)
