use Rattle.mtl_formulas.proofs.ReachLaw.{value_of-same, equal-AgreeAt}
use Rattle.mtl_formulas.proofs.laws.reach.Goals as goal

pub returns : goal.returns
returns c = λ rows others t i agree.
    value_of-same (λ row. row) rows (λ row. row) others t i (λ k below. equal-AgreeAt (λ row. row) rows others k (agree k below))
