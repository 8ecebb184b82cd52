use Rattle.std.proofs.Common.{◌∙◌}
use Rattle.meetings.specs.Answers.{answer_of}
use Rattle.mtl_formulas.proofs.ReachLaw.{map-AgreeAt, value_of-same}
use Rattle.mtl_formulas.specs.FormulaTree.{tree_of}
use Rattle.plan_situations.proofs.reasons.value_at.Goals as goal

pub returns : goal.returns
returns c = c.value.ensures ∙ value_of-same answer_of c.args.rows.now (λ row. row) _ (tree_of c.args.formula.now) c.args.position (λ k below. map-AgreeAt answer_of c.args.rows.now k)
