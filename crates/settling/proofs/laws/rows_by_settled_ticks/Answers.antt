use Rattle.settling.proofs.DecidedRows.{rows_by_settled_ticks}
use Rattle.settling.proofs.laws.rows_by_settled_ticks.Goals as goal

pub returns : goal.returns
returns c = rows_by_settled_ticks
