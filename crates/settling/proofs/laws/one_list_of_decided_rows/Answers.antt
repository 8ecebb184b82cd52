use Rattle.settling.proofs.DecidedRows.{one_list_of_decided_rows}
use Rattle.settling.proofs.laws.one_list_of_decided_rows.Goals as goal

pub returns : goal.returns
returns c = one_list_of_decided_rows
