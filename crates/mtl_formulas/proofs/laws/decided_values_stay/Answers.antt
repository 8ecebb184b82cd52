use Rattle.mtl_formulas.proofs.PrefixLaw.{Stays-value, decided-Stays}
use Rattle.mtl_formulas.proofs.laws.decided_values_stay.Goals as goal

pub returns : goal.returns
returns c = λ rows more t i. decided-Stays _ _ (Stays-value (λ row. row) rows more t i)
