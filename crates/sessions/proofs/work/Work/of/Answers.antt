use Rattle.sessions.proofs.Working.{audit_begun, drill_begun, points_begun, watch_begun}
use Rattle.sessions.proofs.work.Work.of.Goals as goal

pub returns-in-Points-clause-done : goal.returns-in-Points-clause-done
returns-in-Points-clause-done c = points_begun c.args.scenario.now

pub returns-in_ok-new-in-Audit-clause-done : goal.returns-in_ok-new-in-Audit-clause-done
returns-in_ok-new-in-Audit-clause-done c = audit_begun c.args.scenario.now c.in_ok-new-in-Audit.field-0 c.in_ok-new-in-Audit.ensures

pub returns-in_ok-new-in-Drill-clause-done : goal.returns-in_ok-new-in-Drill-clause-done
returns-in_ok-new-in-Drill-clause-done c = drill_begun c.args.scenario.now c.in_ok-new-in-Drill.field-0 c.in_ok-new-in-Drill.ensures

pub returns-in_ok-new-in-Watch-clause-done : goal.returns-in_ok-new-in-Watch-clause-done
returns-in_ok-new-in-Watch-clause-done c = watch_begun c.args.scenario.now c.in_ok-new-in-Watch.field-0 c.in_ok-new-in-Watch.ensures
