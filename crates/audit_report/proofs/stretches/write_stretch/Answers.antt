use Rattle.audit_report.proofs.stretches.write_stretch.Goals as goal

pub returns-in-Meeting : goal.returns-in-Meeting
returns-in-Meeting c = rw c.in-Meeting.is c.write.ensures

pub returns-in-Verdict : goal.returns-in-Verdict
returns-in-Verdict c = rw c.in-Verdict.is (rw c.name-name.ensures.name at c.write-in-Verdict.ensures)
