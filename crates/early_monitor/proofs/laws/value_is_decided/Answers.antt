use Rattle.mtl_early.proofs.ForCallers.{some_number}
use Rattle.early_monitor.proofs.laws.value_is_decided.Goals as goal

pub returns : goal.returns
returns c = λ rows t i decided. some_number rows t i decided
