use Rattle.auditor.proofs.OneAudit.{one_list_of_rows}
use Rattle.auditor.proofs.laws.one_list_of_rows.Goals as goal

pub returns : goal.returns
returns c = one_list_of_rows
