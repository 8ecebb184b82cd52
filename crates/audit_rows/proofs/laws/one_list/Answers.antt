use Rattle.audit_rows.proofs.Fronts.{one_list}
use Rattle.audit_rows.proofs.laws.one_list.Goals as goal

pub returns : goal.returns
returns c = one_list
