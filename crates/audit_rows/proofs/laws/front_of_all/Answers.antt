use Rattle.audit_rows.proofs.Fronts.{front_of_all}
use Rattle.audit_rows.proofs.laws.front_of_all.Goals as goal

pub returns : goal.returns
returns c = front_of_all
