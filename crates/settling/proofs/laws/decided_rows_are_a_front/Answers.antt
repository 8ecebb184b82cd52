use Rattle.settling.proofs.DecidedRows.{decided_rows_are_a_front}
use Rattle.settling.proofs.laws.decided_rows_are_a_front.Goals as goal

pub returns : goal.returns
returns c = decided_rows_are_a_front
