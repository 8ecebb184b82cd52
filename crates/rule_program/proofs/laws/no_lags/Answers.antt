use Rattle.rule_program.proofs.LagLaws.{value-HasLags}
use Rattle.rule_program.proofs.laws.no_lags.Goals as goal

pub returns : goal.returns
returns c = λ rows t i valid no. (value-HasLags rows t valid).no i no
