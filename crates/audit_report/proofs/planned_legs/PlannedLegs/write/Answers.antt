use Rattle.audit_report.proofs.planned_legs.PlannedLegs.write.Goals as goal

pub returns-in-Some : goal.returns-in-Some
returns-in-Some c = rw c.in-Some.is c.write_plan.ensures

pub returns-in-None : goal.returns-in-None
returns-in-None c = rw c.in-None.is (rw c.plans.ensures.value at c.write.ensures)
