use Rattle.audit_report.proofs.report_text.ReportText.write.Goals as goal

pub returns-in-Point : goal.returns-in-Point
returns-in-Point c = rw c.in-Point.is c.write_point.ensures

pub returns-in-Meeting : goal.returns-in-Meeting
returns-in-Meeting c = rw c.in-Meeting.is c.write_meeting.ensures

pub returns-in-Verdict : goal.returns-in-Verdict
returns-in-Verdict c = rw c.in-Verdict.is c.write_verdict.ensures

pub returns-in-Alarm : goal.returns-in-Alarm
returns-in-Alarm c = rw c.in-Alarm.is c.write_alarm.ensures

pub returns-in-Vessel : goal.returns-in-Vessel
returns-in-Vessel c = rw c.in-Vessel.is c.write_vessel.ensures

pub returns-in-Total : goal.returns-in-Total
returns-in-Total c = rw c.in-Total.is c.write_total.ensures

pub returns-in-Lines : goal.returns-in-Lines
returns-in-Lines c = rw c.in-Lines.is c.write_count.ensures

pub returns-in-Plan : goal.returns-in-Plan
returns-in-Plan c = rw c.in-Plan.is c.write_plan.ensures

pub returns-in-NoPlan : goal.returns-in-NoPlan
returns-in-NoPlan c = rw c.in-NoPlan.is c.write_no_plan.ensures
