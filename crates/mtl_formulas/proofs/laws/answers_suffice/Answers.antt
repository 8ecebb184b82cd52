use Rattle.mtl_formulas.proofs.ReachLaw.{value_of-same, map-AgreeAt}
use Rattle.mtl_formulas.proofs.laws.answers_suffice.Goals as goal

pub returns : goal.returns
returns g c = λ rows t i.
    value_of-same g.A.Atoms.answer rows (λ row. row) _ t i (λ k below. map-AgreeAt g.A.Atoms.answer rows k)
