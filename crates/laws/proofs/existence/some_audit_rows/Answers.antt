use Rattle.laws.proofs.SomeAuditRows.{some_audit_rows}
use Rattle.laws.proofs.existence.some_audit_rows.Goals as goal

pub returns : goal.returns
returns c = some_audit_rows
