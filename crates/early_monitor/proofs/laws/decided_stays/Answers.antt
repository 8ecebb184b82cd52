use Rattle.mtl_early.proofs.ForCallers.{decided_still, decided_value}
use Rattle.early_monitor.proofs.laws.decided_stays.Goals as goal

pub returns-clause-still : goal.returns-clause-still
returns-clause-still c = λ rows more t i m h. decided_still rows t i m h more

pub returns-clause-value : goal.returns-clause-value
returns-clause-value c = λ rows t i m h. decided_value rows t i m h
