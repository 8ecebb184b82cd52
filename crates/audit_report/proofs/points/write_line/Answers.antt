use Rattle.audit_report.proofs.points.write_line.Goals as goal

pub returns-in-Accepted : goal.returns-in-Accepted
returns-in-Accepted c = rw c.in-Accepted.is c.write.ensures
