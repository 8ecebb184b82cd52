use Rattle.settling.proofs.DecidedRows.{decided_rows_begin_the_report}
use Rattle.settling.proofs.laws.decided_rows_begin_the_report.Goals as goal

pub returns : goal.returns
returns c = decided_rows_begin_the_report
